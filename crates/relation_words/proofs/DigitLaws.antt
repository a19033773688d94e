-- Numbers: digits one by one, at most eighteen.
use Prim.Native.Nat.{ℕ, zero, suc, ◌+◌, ◌*◌, ◌-◌, ◌≤◌, ◌<◌}
use mathlib.Core.Path.{◌≡◌, refl, sym, ◌∙◌, ap, subst}
use mathlib.Core.Bool.{Bool, true, false, ◌&&◌, ◌||◌, cond, false≢true}
use mathlib.Core.List.{List, [], ◌∷◌, ◌++◌}
use native.Mathlib.Omega.{arith}
use native.Mathlib.Numerals.{add-one}
use native.Mathlib.Nat.{le_refl}
use lib.Dec.{leb}
use lib.ListN.{length, take, get_or}
use lib.Seq.{take-suc, take-length}
use borrow.Author.Tests.{le-leb, lt-leb, eqb-true, ne_eqb}
use Rattle.rules.specs.Lists.{all}
use Rattle.relation_rules.specs.Grammar.{is_blank, is_letter, is_digit, minus, figures, decimal, Figure, goes_on}
use Rattle.relation_rules.specs.Reader.{figure_begins}
use Rattle.rules.proofs.TestLaws.{both, between_low, between_high}
use Rattle.rules.proofs.ListLaws.{all_each, all_at}
use Rattle.relation_rules.proofs.TokenLaws.{or_left, or_right, member}
use Rattle.layout.specs.Reads.{part}
use Rattle.layout.specs.Ensures.{Number}
use Rattle.relation_words.specs.Wanted.{Wanted, Begun}
use Rattle.relation_words.specs.Heard.{FigureAt, first_digit}
use Rattle.relation_words.proofs.PartLaws.{part_cons, part_length}
use Rattle.relation_words.proofs.StretchLaws.{StretchTo, all_to, goes_part, begun_to}
use Rattle.relation_words.proofs.RunLaws.{figure_sort, goes_sort, figure_fits}

-- ---- a figure is nothing else

pub figure_letter : (b : ℕ) → (is_digit b || minus b) ≡ true → is_letter b ≡ false
figure_letter b e = go (minus b) refl
  where
    go : (x : Bool) → minus b ≡ x → is_letter b ≡ false
    go true f = ap is_letter (eqb-true b 45 f)
    go false f =
        let d : is_digit b ≡ true = digit (is_digit b) (minus b) f e in
        let high : b ≤ 57 = between_high 48 57 b d in
        λ i. (lt-leb 65 b (omega arith) i && leb b 90) || (lt-leb 97 b (omega arith) i && leb b 122) || ne_eqb b 95 (λ (h : b ≡ 95). omega arith) i
      where
        digit : (x y : Bool) → y ≡ false → (x || y) ≡ true → x ≡ true
        digit true y g h = refl
        digit false y g h = absurd (false≢true (sym g ∙ h))

pub figure_blank : (b : ℕ) → (is_digit b || minus b) ≡ true → is_blank b ≡ false
figure_blank b e = go (is_blank b) refl
  where
    go : (x : Bool) → is_blank b ≡ x → x ≡ false
    go true f = absurd (false≢true (sym (member (λ z. (is_digit z || minus z) ≡ false) b (32 ∷ 9 ∷ 10 ∷ 13 ∷ []) (refl, (refl, (refl, (refl, tt)))) f) ∙ e))
    go false f = refl

pub digit_not_minus : (b : ℕ) → minus b ≡ false → (is_digit b || minus b) ≡ true → is_digit b ≡ true
digit_not_minus b f e = go (is_digit b) (minus b) f e
  where
    go : (x y : Bool) → y ≡ false → (x || y) ≡ true → x ≡ true
    go true y g h = refl
    go false y g h = absurd (false≢true (sym g ∙ h))

-- ---- sizes

abbrev tens : ℕ → ℕ
tens zero = 1
tens (suc k) = 10 * tens k

tens_up : (k j : ℕ) → tens k ≤ tens (j + k)
tens_up k zero = let e : k ≡ 0 + k = omega arith in subst (λ n. tens k ≤ tens n) e (le_refl (tens k))
tens_up k (suc j) =
    let e : suc (j + k) ≡ suc j + k = omega arith in
    let h : tens k ≤ tens (j + k) = tens_up k j in
    let more : tens k ≤ 10 * tens (j + k) = omega arith in
    subst (λ n. tens k ≤ tens n) e more

tens_most : (k : ℕ) → k ≤ 18 → tens k ≤ 1000000000000000000
tens_most k h = let e : 18 - k + k ≡ 18 = omega arith in subst (λ n. tens k ≤ tens n) e (tens_up k (18 - k))

decimal_more : (n : ℕ) (l : List ℕ) (c : ℕ) → decimal n (l ++ (c ∷ [])) ≡ decimal n l * 10 + (c - 48)
decimal_more n [] c = refl
decimal_more n (d ∷ l) c = decimal_more (n * 10 + (d - 48)) l c

-- ---- the size of some digits, read one by one

-- the first i of them make the number `size`
pub record Sizing (ds : List ℕ) (i size : ℕ) : Type 0 where
  pub is : decimal 0 (take i ds) ≡ size
  pub low : size < tens i

module _ {ds : List ℕ} {i size : ℕ} (all_digits : all is_digit ds ≡ true) (g : Sizing ds i size) (h : i < length ds) where
  digit_there : is_digit (get_or ds i 0) ≡ true
  digit_there = all_at (λ b. is_digit b ≡ true) ds 0 (all_each is_digit ds all_digits) i h

  pub digit_low : 48 ≤ get_or ds i 0
  digit_low = between_low 48 57 (get_or ds i 0) digit_there

  pub sizing_more : Sizing ds (i + 1) (size * 10 + (get_or ds i 0 - 48))
  sizing_more =
      let high : get_or ds i 0 ≤ 57 = between_high 48 57 (get_or ds i 0) digit_there in
      let low : size < tens i = g.low in
      subst (λ n. Sizing ds n (size * 10 + (get_or ds i 0 - 48))) (sym (add-one i))
      (record {
        is = ap (decimal 0) (take-suc ds i 0 h) ∙ decimal_more 0 (take i ds) (get_or ds i 0) ∙ ap (λ z. z * 10 + (get_or ds i 0 - 48)) g.is;
        low = omega arith;
      })

-- while fewer than eighteen are read, one digit more fits
pub sizing_small : {ds : List ℕ} {i size : ℕ} → length ds ≤ 18 → Sizing ds i size → i < length ds → size < 100000000000000000
sizing_small {ds} {i} {size} few g h = let low : size < tens i = g.low in let most : tens i ≤ 100000000000000000 = up (17 - i) (omega arith) in omega arith
  where
    up : (j : ℕ) → j + i ≡ 17 → tens i ≤ 100000000000000000
    up j e = subst (λ n. tens i ≤ tens n) e (tens_up i j)

pub sizing_end : {ds : List ℕ} {i size : ℕ} → length ds ≤ 18 → Sizing ds i size → i ≤ length ds → length ds ≤ i → Number (decimal 0 ds) 1000000000000000000 size
sizing_end {ds} {i} {size} few g h m =
    let e : i ≡ length ds = omega arith in
    let low : size < tens i = g.low in
    let most : tens i ≤ 1000000000000000000 = tens_most i (omega arith) in
    record { is = sym g.is ∙ ap (λ n. decimal 0 (take n ds)) e ∙ ap (decimal 0) (take-length ds); below = omega arith }

-- ---- the digits from a figure on, up to `to`

module _ {s : List ℕ} {at to : ℕ} (f : FigureAt s at) (k : StretchTo is_digit s (suc at) to) where
  pub figure_goes : (i c : ℕ) → at < i → i ≤ length s → goes_on (part s at i) c ≡ is_digit c
  figure_goes i c h l =
      goes_part s at i c h l ∙ goes_sort (get_or s at 0) c Figure (figure_sort (get_or s at 0) (figure_letter (get_or s at 0) f.is) f.is) (part s (suc at) i)

  -- up to eighteen of them may begin a number
  figures_fit : (i : ℕ) → at < i → i ≤ to → i ≤ first_digit (get_or s at 0) at + 18 → figure_begins (part s at i) ≡ true
  figures_fit i h l m = ap figure_begins (part_cons s at i h most) ∙ go (minus (get_or s at 0)) refl
    where
      most : i ≤ length s
      most = let z : to ≤ length s = k.most in omega arith

      long : length (part s (suc at) i) ≡ i - suc at
      long = part_length s (suc at) i h most

      a : all is_digit (part s (suc at) i) ≡ true
      a = all_to k i h l

      go : (y : Bool) → minus (get_or s at 0) ≡ y → figure_begins (get_or s at 0 ∷ part s (suc at) i) ≡ true
      go true e =
          let n : first_digit (get_or s at 0) at ≡ suc at = ap (λ z. cond z (suc at) at) e in
          let o : length (part s (suc at) i) ≤ 18 = omega (arith, long) in
          or_left (minus (get_or s at 0) && figures (part s (suc at) i)) _
          (both (minus (get_or s at 0)) (figures (part s (suc at) i)) e
          (both (all is_digit (part s (suc at) i)) (leb (length (part s (suc at) i)) 18) a (le-leb (length (part s (suc at) i)) 18 o)))
      go false e =
          let n : first_digit (get_or s at 0) at ≡ at = ap (λ z. cond z (suc at) at) e in
          let o : suc (length (part s (suc at) i)) ≤ 18 = omega (arith, long) in
          or_right (minus (get_or s at 0) && figures (part s (suc at) i)) (figures (get_or s at 0 ∷ part s (suc at) i))
          (both (all is_digit (get_or s at 0 ∷ part s (suc at) i)) (leb (suc (length (part s (suc at) i))) 18)
          (both (is_digit (get_or s at 0)) (all is_digit (part s (suc at) i)) (digit_not_minus (get_or s at 0) e f.is) a)
          (le-leb (suc (length (part s (suc at) i))) 18 o))

  pub begun_figures : (w : Wanted) → w.whole ≡ true → (r : ℕ) → at < r → r ≤ to → r ≤ first_digit (get_or s at 0) at + 18 → Begun w s at r
  begun_figures w e r h l m =
      let most : to ≤ length s = k.most in
      begun_to h (omega arith) (figure_blank (get_or s at 0) f.is)
      (λ i (a : at < i) (b : i < r). figure_goes i (get_or s i 0) a (omega arith) ∙ k.passes i a (omega arith))
      (λ i (a : at < i) (b : i ≤ r). figure_fits w (part s at i) e (figures_fit i a (omega arith) (omega arith)))
