-- Stretches of bytes that pass a test, and the reader on its way along a token.
use Prim.Native.Nat.{ℕ, zero, suc, ◌+◌, ◌-◌, ◌≤◌, ◌<◌, min}
use mathlib.Core.Path.{◌≡◌, refl, ◌∙◌, ap, sym, subst}
use mathlib.Core.Bool.{Bool, true, false, ◌&&◌}
use mathlib.Core.List.{List, [], ◌∷◌}
use native.Mathlib.Omega.{arith}
use lib.Dec.{ltb}
use lib.ListN.{length, take, drop, get_or}
use borrow.Author.Tests.{ltb-true, ltb-false}
use Rattle.std.proofs.lemmas.List.{length-take, get_or-take}
use Rattle.rules.specs.Lists.{all}
use Rattle.rules.proofs.TestLaws.{both}
use Rattle.rules.proofs.ListLaws.{all_append}
use Rattle.relation_rules.specs.Grammar.{is_blank, goes_on, apart}
use Rattle.layout.specs.Reads.{part}
use Rattle.layout.specs.Ensures.{Says}
use Rattle.relation_words.specs.Words.{Gap}
use Rattle.relation_words.specs.Wanted.{Wanted, fits_wanted, Begun}
use Rattle.relation_words.proofs.PartLaws.{part_none, part_more, part_cons}
use Rattle.relation_words.proofs.ReadLaws.{begun_first, begun_on, apart_at, apart_end}

-- what holds at a, and behind each position where it holds, holds at r
along : (P : ℕ → Type 0) (a r : ℕ) → a ≤ r → P a → ((i : ℕ) → a ≤ i → i < r → P i → P (suc i)) → P r
along P a r h z f = let e : a + (r - a) ≡ r = omega arith in subst P e (go (r - a) (omega arith))
  where
    go : (n : ℕ) → a + n ≤ r → P (a + n)
    go zero m = let e : a ≡ a + 0 = omega arith in subst P e z
    go (suc n) m =
        let e : suc (a + n) ≡ a + suc n = omega arith in
        let l : a + n < r = omega arith in
        subst P e (f (a + n) (omega arith) l (go n (omega arith)))

-- from `at` to r all bytes pass the test p
pub record StretchTo (p : ℕ → Bool) (s : List ℕ) (at r : ℕ) : Type 0 where
  pub on : at ≤ r
  pub most : r ≤ length s
  pub passes : (i : ℕ) → at ≤ i → i < r → p (get_or s i 0) ≡ true

pub all_more : (p : ℕ → Bool) (s : List ℕ) (at i : ℕ) → at ≤ i → i < length s → all p (part s at i) ≡ true → p (get_or s i 0) ≡ true → all p (part s at (suc i)) ≡ true
all_more p s at i h l e f =
    ap (all p) (part_more s at i h l)
    ∙ all_append p (part s at i) (get_or s i 0 ∷ [])
    ∙ both (all p (part s at i)) (p (get_or s i 0) && true) e (both (p (get_or s i 0)) true f refl)

module _ {p : ℕ → Bool} {s : List ℕ} {at r : ℕ} where
  pub stretched : at ≤ r → r ≤ length s → ((i : ℕ) → at + i < r → Says (p (get_or s (at + i) 0)) true) → StretchTo p s at r
  stretched a b f =
      record {
        on = a;
        most = b;
        passes =
            λ i (h : at ≤ i) (l : i < r).
            let e : at + (i - at) ≡ i = omega arith in
            subst (λ n. p (get_or s n 0) ≡ true) e (f (i - at) (omega arith)).is;
      }

  pub stretched_on : at + 1 ≤ r → r ≤ length s → ((i : ℕ) → at + 1 + i < r → Says (p (get_or s (at + 1 + i) 0)) true) → StretchTo p s (suc at) r
  stretched_on a b f =
      record {
        on = omega arith;
        most = b;
        passes =
            λ i (h : suc at ≤ i) (l : i < r).
            let e : at + 1 + (i - (at + 1)) ≡ i = omega arith in
            subst (λ n. p (get_or s n 0) ≡ true) e (f (i - (at + 1)) (omega arith)).is;
      }

  pub all_to : StretchTo p s at r → (i : ℕ) → at ≤ i → i ≤ r → all p (part s at i) ≡ true
  all_to k i a b =
      along (λ n. all p (part s at n) ≡ true) at i a (ap (all p) (part_none s at))
      (λ j (h : at ≤ j) (l : j < i) e. let m : r ≤ length s = k.most in let n : j < r = omega arith in all_more p s at j h (omega arith) e (k.passes j h n))

  -- among the first n bytes
  pub stretched_in : (n : ℕ) → at + 1 ≤ r → r ≤ length (take n s) → ((i : ℕ) → at + 1 + i < r → Says (p (get_or (take n s) (at + 1 + i) 0)) true) → StretchTo p s (suc at) r
  stretched_in n a b f =
      let long : length (take n s) ≡ min n (length s) = length-take n s in
      stretched_on a (omega arith)
      (λ i (h : at + 1 + i < r). subst (λ z. Says (p z) true) (get_or-take n s (at + 1 + i) 0 (omega arith)) (f i h))

pub stretch_gap : {s : List ℕ} {at r : ℕ} → StretchTo is_blank s at r → (r < length s → Says (is_blank (get_or s r 0)) false) → Gap s at r
stretch_gap {s} {at} {r} k n = let m : r ≤ r = omega arith in record { on = k.on; most = k.most; blanks = all_to k r k.on m; next = λ h. (n h).is }

-- ---- a token up to r

pub apart_to : (l s : List ℕ) (r : ℕ) → (r < length s → goes_on l (get_or s r 0) ≡ false) → apart l (drop r s) ≡ true
apart_to l s r f = go (ltb r (length s)) refl
  where
    go : (x : Bool) → ltb r (length s) ≡ x → apart l (drop r s) ≡ true
    go true e = let h = ltb-true r (length s) e in apart_at l s r h (f h)
    go false e = apart_end l s r (ltb-false r (length s) e)

pub one_part : (s : List ℕ) (at : ℕ) → at < length s → part s at (suc at) ≡ get_or s at 0 ∷ []
one_part s at l = part_cons s at (suc at) (omega arith) l ∙ ap (λ z. get_or s at 0 ∷ z) (part_none s (suc at))

pub goes_part : (s : List ℕ) (at i c : ℕ) → at < i → i ≤ length s → goes_on (part s at i) c ≡ goes_on (get_or s at 0 ∷ part s (suc at) i) c
goes_part s at i c h l = ap (λ z. goes_on z c) (part_cons s at i h l)

module _ {s : List ℕ} {at : ℕ} where
  pub begun_to : {w : Wanted} {r : ℕ} → at < r → r ≤ length s → is_blank (get_or s at 0) ≡ false
      → ((i : ℕ) → at < i → i < r → goes_on (part s at i) (get_or s i 0) ≡ true)
      → ((i : ℕ) → at < i → i ≤ r → fits_wanted w (part s at i) ≡ true) → Begun w s at r
  begun_to {w} {r} h l b g f =
      let first : at < length s = omega arith in
      let next : at < suc at = omega arith in
      along (Begun w s at) (suc at) r h (begun_first first b (ap (fits_wanted w) (sym (one_part s at first)) ∙ f (suc at) next h))
      (λ i (a : suc at ≤ i) (m : i < r) k. let n : i < length s = omega arith in let o : at < suc i = omega arith in begun_on k n (g i a m) (f (suc i) o m))
