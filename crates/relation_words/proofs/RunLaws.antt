-- How far a token reaches: words, strings, words of a list.
use Prim.Native.Nat.{ℕ, suc, ◌+◌, ◌-◌, ◌≤◌, ◌<◌}
use mathlib.Core.Path.{◌≡◌, refl, sym, ◌∙◌, ap, subst}
use mathlib.Core.Bool.{Bool, true, false, not, ◌&&◌, ◌||◌, cond, false≢true}
use mathlib.Core.List.{List, [], ◌∷◌, map}
use native.Mathlib.Omega.{arith}
use native.Mathlib.Numerals.{add-one}
use lib.Dec.{eqb, leb, ltb}
use lib.ListN.{length, get_or}
use borrow.Author.Tests.{eqb-true, eqb-false, ltb-true, ltb-false}
use Rattle.rules.specs.Lists.{all, any, same, is_some}
use Rattle.rules.specs.Letters.{letter}
use Rattle.relation_rules.specs.Grammar.{capital, is_blank, is_letter, is_digit, is_quote, minus, word_byte, sign_byte, figures, Sort, Word, Figure, String, Dollar, Compare, Mark, sort_of, reaches, goes_on, in_quotes}
use Rattle.relation_rules.specs.Reader.{begins, behind, word_begins, quote_begins, figure_begins}
use Rattle.rules.proofs.TestLaws.{both, so, or_false, and_false}
use Rattle.relation_rules.proofs.TokenLaws.{or_left, or_right, member}
use Rattle.layout.specs.Reads.{part}
use Rattle.layout.specs.Ensures.{Says}
use Rattle.relation_words.specs.Wanted.{Wanted, fits_wanted, Begun, StopsHere}
use Rattle.relation_words.specs.Heard.{Reaches, TokenRun, WordRun, QuoteRun, OnlyWords, NoWordAt, WordStops}
use Rattle.relation_words.proofs.PartLaws.{part_cons}
use Rattle.relation_words.proofs.ReadLaws.{stop_first, stop_inside, stop_behind, behind_none}
use Rattle.relation_words.proofs.StretchLaws.{StretchTo, all_to, apart_to, one_part, goes_part, begun_to}

-- ---- sorts

pub letter_sort : (b : ℕ) → is_letter b ≡ true → sort_of b ≡ Word
letter_sort b e = ap (λ z. cond z Word (cond (is_digit b || minus b) Figure (cond (is_quote b) String (cond (eqb b (letter "$")) Dollar (cond (sign_byte b) Compare Mark))))) e

pub figure_sort : (b : ℕ) → is_letter b ≡ false → (is_digit b || minus b) ≡ true → sort_of b ≡ Figure
figure_sort b e f =
    ap (λ z. cond z Word (cond (is_digit b || minus b) Figure (cond (is_quote b) String (cond (eqb b (letter "$")) Dollar (cond (sign_byte b) Compare Mark))))) e
    ∙ ap (λ z. cond z Figure (cond (is_quote b) String (cond (eqb b (letter "$")) Dollar (cond (sign_byte b) Compare Mark)))) f

pub quote_sort : (b : ℕ) → is_quote b ≡ true → sort_of b ≡ String
quote_sort b e = ap sort_of (eqb-true b 39 e)

pub goes_sort : (b c : ℕ) (k : Sort) → sort_of b ≡ k → (l : List ℕ) → goes_on (b ∷ l) c ≡ reaches k l c
unfolding goes_on
goes_sort b c k e l = ap (λ z. reaches z l c) e

or_left_false : (x y : Bool) → (x || y) ≡ false → x ≡ false
or_left_false true y e = e
or_left_false false y e = refl

or_right_false : (x y : Bool) → (x || y) ≡ false → y ≡ false
or_right_false true y e = absurd (false≢true (sym e))
or_right_false false y e = e

pub reach_word : {b c : ℕ} {x r : Bool} → Says (is_letter b) x → (x || eqb b 36) ≡ true → Says (word_byte c) r → Reaches b c r
reach_word {b} {c} {x} {r} h e g = record { is = λ q l. go x h.is e l ∙ g.is }
  where
    go : (y : Bool) → is_letter b ≡ y → (y || eqb b 36) ≡ true → (l : List ℕ) → goes_on (b ∷ l) c ≡ word_byte c
    go true f k l = goes_sort b c Word (letter_sort b f) l
    go false f k l = goes_sort b c Dollar (ap sort_of (eqb-true b 36 k)) l

pub reach_figure : {b c : ℕ} {x y r : Bool} → Says (is_letter b) x → (x || eqb b 36) ≡ false → Says (is_digit b || minus b) y → y ≡ true → Says (is_digit c) r → Reaches b c r
reach_figure {b} {c} {x} h e f k g =
    record { is = λ q l. goes_sort b c Figure (figure_sort b (h.is ∙ or_left_false x (eqb b 36) e) (f.is ∙ k)) l ∙ g.is }

pub reach_sign : {b c : ℕ} {x y u v : Bool} → Says (is_letter b) x → (x || eqb b 36) ≡ false → Says (is_digit b || minus b) y → y ≡ false
    → Says (sign_byte b) u → Says (sign_byte c) v → Reaches b c (u && v)
reach_sign {b} {c} {x} {y} {u} {v} h e f k g j =
    record { is = λ q l. go u g.is l q ∙ ap (λ z. u && z) j.is }
  where
    opened : is_quote b ≡ false → sort_of b ≡ cond (sign_byte b) Compare Mark
    opened q =
        ap (λ z. cond z Word (cond (is_digit b || minus b) Figure (cond (is_quote b) String (cond (eqb b (letter "$")) Dollar (cond (sign_byte b) Compare Mark)))))
        (h.is ∙ or_left_false x (eqb b 36) e)
        ∙ ap (λ z. cond z Figure (cond (is_quote b) String (cond (eqb b (letter "$")) Dollar (cond (sign_byte b) Compare Mark)))) (f.is ∙ k)
        ∙ ap (λ z. cond z String (cond (eqb b (letter "$")) Dollar (cond (sign_byte b) Compare Mark))) q
        ∙ ap (λ z. cond z Dollar (cond (sign_byte b) Compare Mark)) (or_right_false x (eqb b 36) e)

    go : (z : Bool) → sign_byte b ≡ z → (l : List ℕ) → is_quote b ≡ false → goes_on (b ∷ l) c ≡ (z && sign_byte c)
    go true i l q = goes_sort b c Compare (opened q ∙ ap (λ t. cond t Compare Mark) i) l
    go false i l q = goes_sort b c Mark (opened q ∙ ap (λ t. cond t Compare Mark) i) l

-- ---- a word where a name may come

letter_blank : (b : ℕ) → is_letter b ≡ true → is_blank b ≡ false
letter_blank b e = go (is_blank b) refl
  where
    go : (x : Bool) → is_blank b ≡ x → x ≡ false
    go true f = absurd (false≢true (sym (member (λ z. is_letter z ≡ false) b (32 ∷ 9 ∷ 10 ∷ 13 ∷ []) (refl, (refl, (refl, (refl, tt)))) f) ∙ e))
    go false f = refl

name_fits : (w : Wanted) (l : List ℕ) → w.name ≡ true → word_begins l ≡ true → fits_wanted w l ≡ true
name_fits w l e f =
    let x = any (begins (map capital l)) w.words in
    or_left (x || (w.name && word_begins l) || (w.quoted && quote_begins l)) (w.whole && figure_begins l)
    (or_left (x || (w.name && word_begins l)) (w.quoted && quote_begins l) (or_right x (w.name && word_begins l) (both w.name (word_begins l) e f)))

quote_fits : (w : Wanted) (l : List ℕ) → w.quoted ≡ true → quote_begins l ≡ true → fits_wanted w l ≡ true
quote_fits w l e f =
    let x = any (begins (map capital l)) w.words in
    or_left (x || (w.name && word_begins l) || (w.quoted && quote_begins l)) (w.whole && figure_begins l)
    (or_right (x || (w.name && word_begins l)) (w.quoted && quote_begins l) (both w.quoted (quote_begins l) e f))

pub figure_fits : (w : Wanted) (l : List ℕ) → w.whole ≡ true → figure_begins l ≡ true → fits_wanted w l ≡ true
figure_fits w l e f =
    let x = any (begins (map capital l)) w.words in
    or_right (x || (w.name && word_begins l) || (w.quoted && quote_begins l)) (w.whole && figure_begins l) (both w.whole (figure_begins l) e f)

module _ {s : List ℕ} {at r : ℕ} (k : StretchTo word_byte s (suc at) r) (n : r < length s → Says (word_byte (get_or s r 0)) false) where
  word_goes : (i c : ℕ) → at < i → i ≤ length s → is_letter (get_or s at 0) ≡ true → goes_on (part s at i) c ≡ word_byte c
  word_goes i c h l f = goes_part s at i c h l ∙ goes_sort (get_or s at 0) c Word (letter_sort (get_or s at 0) f) (part s (suc at) i)

  pub word_run : WordRun s at r
  word_run =
      record {
        on = k.on;
        most = k.most;
        letters = all_to k r k.on (omega arith);
        alone = λ f. apart_to (part s at r) s r (λ h. word_goes r (get_or s r 0) k.on k.most f ∙ (n h).is);
        begun =
            λ w o f.
            begun_to k.on k.most (letter_blank (get_or s at 0) f)
            (λ i (h : at < i) (l : i < r). let m : r ≤ length s = k.most in word_goes i (get_or s i 0) h (omega arith) f ∙ k.passes i h l)
            (λ i (h : at < i) (l : i ≤ r).
            let m : r ≤ length s = k.most in
            let l' : i ≤ length s = omega arith in
            name_fits w (part s at i) o (ap word_begins (part_cons s at i h l') ∙ both (is_letter (get_or s at 0)) (all word_byte (part s (suc at) i)) f (all_to k i h l)));
      }

-- ---- a string

quote_blank : (b : ℕ) → is_quote b ≡ true → is_blank b ≡ false
quote_blank b e = ap is_blank (eqb-true b 39 e)

quote_begins_lem : (b : ℕ) (l : List ℕ) → is_quote b ≡ true → all (λ c. not (is_quote c)) l ≡ true → quote_begins (b ∷ l) ≡ true
quote_begins_lem b l e f =
    both (is_quote b) _ e (or_left (all (λ c. not (is_quote c)) l) _ f)

pub quote_run : {s : List ℕ} {at r : ℕ} → StretchTo (λ c. not (is_quote c)) s (suc at) r → (r < length s → Says (not (is_quote (get_or s r 0))) false) → QuoteRun s at r
quote_run {s} {at} {r} k n =
    record {
      on = k.on;
      most = k.most;
      plain = all_to k r k.on (omega arith);
      stop = λ h. so (is_quote (get_or s r 0)) (n h).is;
      begun =
          λ w e f.
          begun_to k.on k.most (quote_blank (get_or s at 0) f)
          (λ i (h : at < i) (l : i < r).
          let m : r ≤ length s = k.most in
          goes_part s at i (get_or s i 0) h (omega arith) ∙ goes_sort (get_or s at 0) (get_or s i 0) String (quote_sort (get_or s at 0) f) (part s (suc at) i) ∙ all_to k i h (omega arith))
          (λ i (h : at < i) (l : i ≤ r).
          let m : r ≤ length s = k.most in
          let o : i ≤ length s = omega arith in
          quote_fits w (part s at i) e (ap quote_begins (part_cons s at i h o) ∙ quote_begins_lem (get_or s at 0) (part s (suc at) i) f (all_to k i h l)));
    }

-- ---- a token that is no string

pub token_run : {s : List ℕ} {at r : ℕ} → at + 1 ≤ r → r ≤ length s → ((i : ℕ) → at + 1 + i < r → Reaches (get_or s at 0) (get_or s (at + 1 + i) 0) true)
    → (r < length s → Reaches (get_or s at 0) (get_or s r 0) false) → TokenRun s at r
token_run {s} {at} {r} a b f g =
    let on : at < r = omega arith in
    record {
      on = on;
      most = b;
      goes =
          λ q i (h : at < i) (l : i < r).
          let e : at + 1 + (i - (at + 1)) ≡ i = omega arith in
          let m : Reaches (get_or s at 0) (get_or s i 0) true = subst (λ n. Reaches (get_or s at 0) (get_or s n 0) true) e (f (i - (at + 1)) (omega arith)) in
          goes_part s at i (get_or s i 0) h (omega arith) ∙ m.is q (part s (suc at) i);
      alone = λ q. apart_to (part s at r) s r (λ h. goes_part s at r (get_or s r 0) on b ∙ (g h).is q (part s (suc at) r));
    }

-- ---- words of a list

no_figures : (b : ℕ) (l : List ℕ) → (is_digit b || minus b) ≡ false → figure_begins (b ∷ l) ≡ false
no_figures b l e = go (is_digit b) (minus b) e
  where
    go : (x y : Bool) → (x || y) ≡ false → ((y && figures l) || ((x && all is_digit l) && leb (length (b ∷ l)) 18)) ≡ false
    go true y f = absurd (false≢true (sym f))
    go false true f = absurd (false≢true (sym f))
    go false false f = refl

no_names : (x y z : Bool) → (x && y) ≡ false → (x && (y && z)) ≡ false
no_names true true z e = absurd (false≢true (sym e))
no_names true false z e = refl
no_names false y z e = refl

-- only the words of the list may begin so
pub only_words : (w : Wanted) (b : ℕ) (l : List ℕ) → (w.name && is_letter b) ≡ false → (w.quoted && is_quote b) ≡ false → (w.whole && (is_digit b || minus b)) ≡ false
    → fits_wanted w (b ∷ l) ≡ any (begins (map capital (b ∷ l))) w.words
only_words w b l no_name no_quote no_figure =
    let x = any (begins (map capital (b ∷ l))) w.words in
    (λ i. x || no_names w.name (is_letter b) (all word_byte l) no_name i || no_names w.quoted (is_quote b) (all (λ c. not (is_quote c)) l || is_some (in_quotes l)) no_quote i || unfigured w.whole (is_digit b || minus b) refl no_figure i)
    ∙ or_false (x || false || false) ∙ or_false (x || false) ∙ or_false x
  where
    unfigured : (y z : Bool) → (is_digit b || minus b) ≡ z → (y && z) ≡ false → (y && figure_begins (b ∷ l)) ≡ false
    unfigured true true e f = absurd (false≢true (sym f))
    unfigured true false e f = no_figures b l e
    unfigured false z e f = refl

words_fit : (w : Wanted) (b : ℕ) (l : List ℕ) → OnlyWords w b → fits_wanted w (b ∷ l) ≡ any (begins (map capital (b ∷ l))) w.words
words_fit w b l p =
    only_words w b l p.no_name (ap (λ z. w.quoted && z) p.no_quote ∙ and_false w.quoted) (ap (λ z. w.whole && z) p.no_figure ∙ and_false w.whole)

module _ (words : List (List ℕ)) (s : List ℕ) (at : ℕ) where
  fits_as : (w : Wanted) (i : ℕ) → at < i → i ≤ length s → w.words ≡ words → OnlyWords w (get_or s at 0)
      → fits_wanted w (part s at i) ≡ any (begins (map capital (part s at i))) words
  fits_as w i l h e p =
      ap (fits_wanted w) (part_cons s at i l h)
      ∙ words_fit w (get_or s at 0) (part s (suc at) i) p
      ∙ (λ j. any (begins (map capital (sym (part_cons s at i l h) j))) (e j))

-- ---- a token that is no word of the list, read byte by byte

-- a word of the list begins with each part of it up to i
pub record WordGoes (words : List (List ℕ)) (s : List ℕ) (at i : ℕ) : Type 0 where
  pub goes : (k : ℕ) → at < k → k ≤ i → any (begins (map capital (part s at k))) words ≡ true

pub goes_more : {words : List (List ℕ)} {s : List ℕ} {at i : ℕ} → WordGoes words s at i → any (begins (map capital (part s at (i + 1)))) words ≡ true → WordGoes words s at (i + 1)
goes_more {words} {s} {at} {i} g e = record { goes = λ k (h : at < k) (l : k ≤ i + 1). go k h l (eqb k (i + 1)) refl }
  where
    go : (k : ℕ) → at < k → k ≤ i + 1 → (x : Bool) → eqb k (i + 1) ≡ x → any (begins (map capital (part s at k))) words ≡ true
    go k h l true f = ap (λ z. any (begins (map capital (part s at z))) words) (eqb-true k (i + 1) f) ∙ e
    go k h l false f = let n : k ≡ i + 1 → ⊥ = eqb-false k (i + 1) f in g.goes k h (omega arith)

module _ {words : List (List ℕ)} {s : List ℕ} {at to : ℕ} (o : NoWordAt words s at to) where
  begun_word : {w : Wanted} {i : ℕ} → w.words ≡ words → OnlyWords w (get_or s at 0) → at < i → i ≤ to → WordGoes words s at i → Begun w s at i
  begun_word {w} {i} e p h l g =
      let most : to ≤ length s = o.run.most in
      begun_to h (omega arith) p.no_blank (λ j (a : at < j) (b : j < i). o.run.goes p.no_quote j a (omega arith))
      (λ j (a : at < j) (b : j ≤ i). fits_as words s at w j a (omega arith) e p ∙ g.goes j a b)

  pub stops_on : {i : ℕ} → at ≤ i → i < to → WordGoes words s at i → any (begins (map capital (part s at (i + 1)))) words ≡ false → WordStops words s at i
  stops_on {i} h l g e =
      let most : to ≤ length s = o.run.most in
      let m : i < length s = omega arith in
      let k : at < suc i = omega arith in
      let unfit : (w : Wanted) → w.words ≡ words → OnlyWords w (get_or s at 0) → fits_wanted w (part s at (suc i)) ≡ false
      = λ w f p. fits_as words s at w (suc i) k m f p ∙ ap (λ z. any (begins (map capital (part s at z))) words) (sym (add-one i)) ∙ e
      in
      record { on = h; most = omega arith; wrong = λ w f p. go w f p unfit (ltb at i) refl }
    where
      go : (w : Wanted) → w.words ≡ words → OnlyWords w (get_or s at 0) → ((w : Wanted) → w.words ≡ words → OnlyWords w (get_or s at 0) → fits_wanted w (part s at (suc i)) ≡ false)
          → (x : Bool) → ltb at i ≡ x → StopsHere w s at (suc i)
      go w f p unfit true y =
          let most : to ≤ length s = o.run.most in
          let a : at < i = ltb-true at i y in
          stop_inside (begun_word f p a (omega arith) g) (omega arith) (o.run.goes p.no_quote i a l) (unfit w f p)
      go w f p unfit false y =
          let most : to ≤ length s = o.run.most in
          let b : i ≤ at = ltb-false at i y in
          let is : i ≡ at = omega arith in
          let m : at < length s = omega arith in
          subst (λ n. StopsHere w s at (suc n)) (sym is)
          (stop_first m p.no_blank (ap (fits_wanted w) (sym (one_part s at m)) ∙ subst (λ n. fits_wanted w (part s at (suc n)) ≡ false) is (unfit w f p)))

  pub stops_end : {i : ℕ} → to ≤ i → WordGoes words s at i → WordStops words s at to
  stops_end {i} m h =
      let on : at < to = o.run.on in
      let g : WordGoes words s at to = record { goes = λ k (a : at < k) (b : k ≤ to). h.goes k a (omega arith) } in
      record {
        on = omega arith;
        most = o.run.most;
        wrong =
            λ w f p.
            stop_behind (begun_word f p on (omega arith) g) (o.run.alone p.no_quote)
            (λ q i.
            ap (behind q (suc at)) (part_cons s at to on o.run.most)
            ∙ behind_none w q (suc at) (get_or s at 0) (part s (suc at) to) i
            ((λ y. any (same (map capital (sym (part_cons s at to on o.run.most) y))) (f y)) ∙ o.none)
            (λ a _. no_name w p.no_name a)
            (λ a. absurd (false≢true (sym p.no_quote ∙ a)))
            (λ a. absurd (false≢true (sym p.no_figure ∙ a))));
      }
    where
      no_name : (w : Wanted) → (w.name && is_letter (get_or s at 0)) ≡ false → is_letter (get_or s at 0) ≡ true → w.name ≡ false
      no_name w h a = go w.name (ap (λ z. w.name && z) (sym a) ∙ h)
        where
          go : (y : Bool) → (y && true) ≡ false → y ≡ false
          go true i = i
          go false i = refl
