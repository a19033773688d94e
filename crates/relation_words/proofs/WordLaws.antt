-- Words of a list: what begins one, what is one, and the word with a number.
use Prim.Native.Nat.{ℕ, zero, suc, ◌+◌, ◌≤◌, ◌<◌}
use mathlib.Core.Path.{◌≡◌, refl, sym, ◌∙◌, ap}
use mathlib.Core.Bool.{Bool, true, false, not, ◌&&◌, ◌||◌, cond}
use mathlib.Core.List.{List, [], ◌∷◌, map}
use native.Mathlib.Omega.{arith}
use native.Mathlib.Numerals.{add-one}
use lib.Dec.{eqb, leb, ltb, eqb-zero-suc, eqb-suc-zero, eqb-suc-suc}
use lib.ListN.{length, get_or, length-map}
use borrow.Author.Tests.{lt-leb, eq-eqb, ne_eqb, ltb-true, ltb-false, lt-ltb, le-ltb}
use denote.Bor.{Bor}
use Rattle.std.specs.Prelude.{nat_eq, position, Some, None}
use Rattle.std.specs.Option.{is_some}
use Rattle.std.proofs.lemmas.List.Quantifiers.{position-Some}
use Rattle.std.specs.List.{list_all, list_any, zip, position_or_len}
use Rattle.rules.specs.Lists.{any, same}
use Rattle.relation_rules.specs.Grammar.{capital}
use Rattle.relation_rules.specs.Reader.{begins}
use Rattle.layout.specs.Ensures.{Number}
use Rattle.relation_words.specs.Words.{word_of}

-- ---- bytes that begin a word

pub letter_is : (b c : ℕ) {x : ℕ} → Number (capital b) 256 x → nat_eq x c ≡ nat_eq (capital b) c
letter_is b c h = ap (λ z. nat_eq z c) h.is

pub zip_begins : (l k : List ℕ) → length l ≤ length k → list_all (λ p. nat_eq (capital p.0) p.1) (zip l k) ≡ begins (map capital l) k
zip_begins [] k h = refl
zip_begins (b ∷ l) [] h = absurd (omega arith)
zip_begins (b ∷ l) (c ∷ k) h = ap (λ z. nat_eq (capital b) c && z) (zip_begins l k (omega arith))

long_none : (l k : List ℕ) → length k < length l → begins (map capital l) k ≡ false
long_none [] k h = absurd (omega arith)
long_none (b ∷ l) [] h = refl
long_none (b ∷ l) (c ∷ k) h = ap (λ z. eqb (capital b) c && z) (long_none l k (omega arith)) ∙ and_false (eqb (capital b) c)
  where
    and_false : (a : Bool) → (a && false) ≡ false
    and_false true = refl
    and_false false = refl

pub too_long : (l k : List ℕ) → length k < length l → leb (length l) (length k) ≡ begins (map capital l) k
too_long l k h = lt-leb (length l) (length k) h ∙ sym (long_none l k h)

-- ---- a whole word

same_begins : (x y : List ℕ) → same x y ≡ (eqb (length x) (length y) && begins x y)
same_begins [] [] = refl
same_begins [] (b ∷ y) = ap (λ z. z && true) (sym (eqb-zero-suc (length y)))
same_begins (a ∷ x) [] = ap (λ z. z && false) (sym (eqb-suc-zero (length x)))
same_begins (a ∷ x) (b ∷ y) =
    ap (λ z. eqb a b && z) (same_begins x y)
    ∙ turned (eqb a b) (eqb (length x) (length y)) (begins x y)
    ∙ ap (λ z. z && (eqb a b && begins x y)) (sym (eqb-suc-suc (length x) (length y)))
  where
    turned : (p q r : Bool) → (p && (q && r)) ≡ (q && (p && r))
    turned true true r = refl
    turned true false r = refl
    turned false true r = refl
    turned false false r = refl

pub word_is : (l k : List ℕ) {r : Bool} → r ≡ begins (map capital l) k → length l ≡ length k → r ≡ same (map capital l) k
word_is l k h e = h ∙ sym (same_begins (map capital l) k ∙ ap (λ z. z && begins (map capital l) k) (eq-eqb (length (map capital l)) (length k) (length-map l capital ∙ e)))

pub word_other : (l k : List ℕ) → (length l ≡ length k → ⊥) → nat_eq (length l) (length k) ≡ same (map capital l) k
word_other l k n =
    ne_eqb (length l) (length k) n
    ∙ sym (same_begins (map capital l) k ∙ ap (λ z. z && begins (map capital l) k) (ne_eqb (length (map capital l)) (length k) (λ e. n (sym (length-map l capital) ∙ e))))

-- ---- which of the words

ltb_one : (m n : ℕ) → ltb (1 + m) (suc n) ≡ ltb m n
ltb_one m n = go (ltb m n) refl
  where
    go : (x : Bool) → ltb m n ≡ x → ltb (1 + m) (suc n) ≡ x
    go true e = let h : m < n = ltb-true m n e in lt-ltb (1 + m) (suc n) (omega arith)
    go false e = let h : n ≤ m = ltb-false m n e in le-ltb (1 + m) (suc n) (omega arith)

list_any_is : {A : Type 0} (p : A → Bool) (ws : List A) → ltb (position_or_len p ws) (length ws) ≡ list_any p ws
list_any_is p [] = refl
list_any_is p (w ∷ ws) = go (list_any_is p ws) (p w)
  where
    go : ltb (position_or_len p ws) (length ws) ≡ list_any p ws → (x : Bool) → ltb (cond (not x) (1 + position_or_len p ws) 0) (suc (length ws)) ≡ (x || list_any p ws)
    go ih true = lt-ltb 0 (suc (length ws)) (omega arith)
    go ih false = ltb_one (position_or_len p ws) (length ws) ∙ ih

pub any_text : (q : List ℕ → Bool) (ws : List (Bor (List ℕ))) → list_any (λ w. q w.now) ws ≡ any q (map (λ w. w.now) ws)
any_text q [] = refl
any_text q (w ∷ ws) = ap (λ z. q w.now || z) (any_text q ws)

-- a word with a number of the list is l
pub record Listed (ws : List (List ℕ)) (l : List ℕ) (k : ℕ) : Type 0 where
  pub least : 1 ≤ k
  pub last : k ≤ length ws
  pub is : same l (word_of ws k) ≡ true

word_at : (ws : List (Bor (List ℕ))) (i : ℕ) (d : Bor (List ℕ)) → i < length ws → word_of (map (λ w. w.now) ws) (i + 1) ≡ (get_or ws i d).now
word_at ws i d h = ap (word_of (map (λ w. w.now) ws)) (add-one i) ∙ go ws i h
  where
    go : (ws : List (Bor (List ℕ))) (i : ℕ) → i < length ws → word_of (map (λ w. w.now) ws) (suc i) ≡ (get_or ws i d).now
    go [] i h = absurd (omega arith)
    go (w ∷ ws) zero h = refl
    go (w ∷ ws) (suc i) h = go ws i (omega arith)

module _ (l : List ℕ) (ws : List (Bor (List ℕ))) where
  tested : (x : Bool) → ltb (position_or_len (λ w. same l w.now) ws) (length ws) ≡ x → any (same l) (map (λ w. w.now) ws) ≡ x
  tested x e = sym (any_text (same l) ws) ∙ sym (list_any_is (λ w. same l w.now) ws) ∙ e

  pub placed_none : position (λ w. same l w.now) ws ≡ None → any (same l) (map (λ w. w.now) ws) ≡ false
  placed_none e = go (ltb (position_or_len (λ w. same l w.now) ws) (length ws)) refl e
    where
      go : (x : Bool) → ltb (position_or_len (λ w. same l w.now) ws) (length ws) ≡ x → cond x (Some (position_or_len (λ w. same l w.now) ws)) None ≡ None
          → any (same l) (map (λ w. w.now) ws) ≡ false
      go true f h = absurd (cc)
      go false f h = tested false f

  pub placed_some : {i : ℕ} → position (λ w. same l w.now) ws ≡ Some i → Listed (map (λ w. w.now) ws) l (i + 1)
  placed_some {i} e =
      let h = position-Some (λ w. same l w.now) ws i (record { ref_ptr = (0, 0); now = [] }) e in
      let below : i < length ws = h.0 in
      let long : length (map (λ w. w.now) ws) ≡ length ws = length-map ws (λ w. w.now) in
      record { least = omega arith; last = omega arith; is = ap (same l) (word_at ws i (record { ref_ptr = (0, 0); now = [] }) below) ∙ h.1 }

  pub placed_any : is_some (position (λ w. same l w.now) ws) ≡ any (same l) (map (λ w. w.now) ws)
  placed_any = go (ltb (position_or_len (λ w. same l w.now) ws) (length ws)) refl
    where
      go : (x : Bool) → ltb (position_or_len (λ w. same l w.now) ws) (length ws) ≡ x → is_some (cond x (Some (position_or_len (λ w. same l w.now) ws)) None) ≡ any (same l) (map (λ w. w.now) ws)
      go true e = sym (tested true e)
      go false e = sym (tested false e)
