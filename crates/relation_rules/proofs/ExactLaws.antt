-- The places of refusals 14 and 15 are settled: what is promised of them holds of no other place, and of no text that is read.
use Prim.Native.Nat.{ℕ, ◌+◌}
use mathlib.Core.Path.{◌≡◌, refl, sym, ◌∙◌, ap, subst}
use mathlib.Core.Bool.{Bool, true, false, false≢true}
use mathlib.Core.List.{List, [], ◌∷◌, ◌++◌}
use lib.ListN.{length}
use Rattle.rules.specs.Letters.{letter}
use Rattle.relation_rules.specs.Grammar.{Chain, Assignment, Reads, ReadsAs}
use Rattle.rules.specs.PlacedRefusals.{ResultAt, Done, RefusedAt}
use Rattle.relation_rules.specs.Reader.{relation_of}
use Rattle.relation_rules.specs.Faults.{NoText, WrongAt, DeepAt, Number, fourteen, fifteen}
use Rattle.relation_rules.proofs.FaultLaws.{exactly, wrong_place, deep_place, only_two}

-- ---- one text cut in two ways

abbrev head_or : ℕ → List ℕ → ℕ
head_or n [] = n
head_or n (b ∷ l) = b

abbrev tail_of : List ℕ → List ℕ
tail_of [] = []
tail_of (b ∷ l) = l

data Cuts (x y u v : List ℕ) : Type 0 where
  before : (b : ℕ) (z : List ℕ) → u ≡ x ++ (b ∷ z) → y ≡ b ∷ (z ++ v) → Cuts x y u v
  alike : x ≡ u → y ≡ v → Cuts x y u v
  behind : (b : ℕ) (z : List ℕ) → x ≡ u ++ (b ∷ z) → v ≡ b ∷ (z ++ y) → Cuts x y u v

cuts : (x y u v : List ℕ) → x ++ y ≡ u ++ v → Cuts x y u v
cuts [] y [] v e = alike refl e
cuts [] y (c ∷ u) v e = before c u refl e
cuts (a ∷ x) y [] v e = behind a x refl (sym e)
cuts (a ∷ x) y (c ∷ u) v e = go (cuts x y u v (ap tail_of e))
  where
    same : a ≡ c
    same = ap (head_or a) e

    go : Cuts x y u v → Cuts (a ∷ x) y (c ∷ u) v
    go (before b z f g) = before b z (λ i. sym same i ∷ f i) g
    go (alike f g) = alike (λ i. same i ∷ f i) g
    go (behind b z f g) = behind b z (λ i. same i ∷ f i) g

append_assoc : (x y z : List ℕ) → (x ++ y) ++ z ≡ x ++ (y ++ z)
append_assoc [] y z = refl
append_assoc (a ∷ x) y z = ap (λ i. a ∷ i) (append_assoc x y z)

append_none : (l : List ℕ) → l ++ [] ≡ l
append_none [] = refl
append_none (a ∷ l) = ap (λ z. a ∷ z) (append_none l)

-- a text that goes on behind a longer beginning goes on behind a shorter one
longer : (x : List ℕ) (b : ℕ) (z u r : List ℕ) → u ≡ x ++ (b ∷ z) → u ++ r ≡ x ++ (b ∷ (z ++ r))
longer x b z u r e = ap (λ i. i ++ r) e ∙ append_assoc x (b ∷ z) r

-- ---- no text goes on so

-- where no text has the byte, no text goes on
no_text : (x y : List ℕ) (b : ℕ) (z : List ℕ) → NoText x y → y ≡ b ∷ z → (r : List ℕ) (t : Chain Assignment) → ReadsAs (x ++ (b ∷ r)) t → ⊥
no_text x [] b z h e r t k = empty_cons b z e
  where
    is_cons : List ℕ → Bool
    is_cons [] = false
    is_cons (c ∷ l) = true

    empty_cons : (c : ℕ) (l : List ℕ) → [] ≡ c ∷ l → ⊥
    empty_cons c l f = false≢true (ap is_cons f)
no_text x (c ∷ y) b z h e r t k = h r t (subst (λ i. ReadsAs (x ++ (i ∷ r)) t) (sym (ap (head_or c) e)) k)

-- a text that is read is refused nowhere
read_nowhere : (x y : List ℕ) → NoText x y → (t : Chain Assignment) → ReadsAs (x ++ y) t → ⊥
read_nowhere x [] h t k = h t (subst (λ i. ReadsAs i t) (append_none x) k)
read_nowhere x (b ∷ y) h t k = h y t k

module _ (s : List ℕ) where
  not_read : (p : ℕ) → WrongAt s p → (t : Chain Assignment) → Reads s t → ⊥
  not_read p w t r = read_nowhere w.before w.behind w.none_has t (subst (λ i. ReadsAs i t) w.whole r.0)

  -- two places of 14 are one
  same_wrong : (p q : ℕ) → WrongAt s p → WrongAt s q → p ≡ q
  same_wrong p q w v = go (cuts w.before w.behind v.before v.behind (sym w.whole ∙ v.whole))
    where
      go : Cuts w.before w.behind v.before v.behind → p ≡ q
      go (before b z f g) =
          absurd (no_text w.before w.behind b (z ++ v.behind) w.none_has g (z ++ v.rest) v.tree
          (subst (λ i. ReadsAs i v.tree) (longer w.before b z v.before v.rest f) v.text.0))
      go (alike f g) = w.place ∙ ap (λ i. 1 + length i) f ∙ sym v.place
      go (behind b z f g) =
          absurd (no_text v.before v.behind b (z ++ w.behind) v.none_has g (z ++ w.rest) w.tree
          (subst (λ i. ReadsAs i w.tree) (longer v.before b z w.before w.rest f) w.text.0))

  -- no place of 14 beside one of 15
  wrong_deep : (p q : ℕ) → WrongAt s p → DeepAt s q → ⊥
  wrong_deep p q w d = go (cuts w.before w.behind d.before (letter "(" ∷ d.behind) (sym w.whole ∙ d.whole))
    where
      go : Cuts w.before w.behind d.before (letter "(" ∷ d.behind) → ⊥
      go (before b z f g) =
          no_text w.before w.behind b (z ++ (letter "(" ∷ d.behind)) w.none_has g (z ++ d.rest) d.tree
          (subst (λ i. ReadsAs i d.tree) (longer w.before b z d.before d.rest f) d.text.0)
      go (alike f g) =
          no_text w.before w.behind (letter "(") d.behind w.none_has g d.deeper_rest d.deeper_tree
          (subst (λ i. ReadsAs (i ++ (letter "(" ∷ d.deeper_rest)) d.deeper_tree) (sym f) d.deeper_text)
      go (behind b z f g) =
          d.none_has (z ++ w.rest) w.tree
          (subst (λ i. Reads i w.tree)
          (longer d.before b z w.before w.rest f ∙ ap (λ i. d.before ++ (i ∷ (z ++ w.rest))) (sym (ap (head_or 0) g))) w.text)

  -- two places of 15 are one
  same_deep : (p q : ℕ) → DeepAt s p → DeepAt s q → p ≡ q
  same_deep p q w v = go (cuts w.before (letter "(" ∷ w.behind) v.before (letter "(" ∷ v.behind) (sym w.whole ∙ v.whole))
    where
      go : Cuts w.before (letter "(" ∷ w.behind) v.before (letter "(" ∷ v.behind) → p ≡ q
      go (before b z f g) =
          absurd (w.none_has (z ++ v.rest) v.tree
          (subst (λ i. Reads i v.tree)
          (longer w.before b z v.before v.rest f ∙ ap (λ i. w.before ++ (i ∷ (z ++ v.rest))) (sym (ap (head_or 0) g))) v.text))
      go (alike f g) = w.place ∙ ap (λ i. 1 + length i) f ∙ sym v.place
      go (behind b z f g) =
          absurd (v.none_has (z ++ w.rest) w.tree
          (subst (λ i. Reads i w.tree)
          (longer v.before b z w.before w.rest f ∙ ap (λ i. v.before ++ (i ∷ (z ++ w.rest))) (sym (ap (head_or 0) g))) w.text))

  deep_not_read : (p : ℕ) → DeepAt s p → (t : Chain Assignment) → Reads s t → ⊥
  deep_not_read p d t r = d.none_has d.behind t (subst (λ i. Reads i t) d.whole r)

  by_number : (k p : ℕ) → relation_of s ≡ RefusedAt k p → Number k → (P : ℕ → ℕ → Type 0) → (relation_of s ≡ RefusedAt 14 p → P 14 p) → (relation_of s ≡ RefusedAt 15 p → P 15 p) → P k p
  by_number k p e fourteen P f g = f e
  by_number k p e fifteen P f g = g e

  -- Refusal 14 is given at p exactly where what is promised of it holds of p.
  pub wrong_exactly : (p : ℕ) → (relation_of s ≡ RefusedAt 14 p → WrongAt s p) × (WrongAt s p → relation_of s ≡ RefusedAt 14 p)
  wrong_exactly p = (wrong_place s p, λ w. go w (relation_of s) refl)
    where
      go : WrongAt s p → (r : ResultAt (Chain Assignment)) → relation_of s ≡ r → relation_of s ≡ RefusedAt 14 p
      go w (Done t) e = absurd (not_read p w t ((exactly s t).1 e))
      go w (RefusedAt k q) e =
          by_number k q e (only_two s k q e) (λ i j. relation_of s ≡ RefusedAt 14 p)
          (λ f. f ∙ ap (RefusedAt 14) (same_wrong q p (wrong_place s q f) w)) (λ f. absurd (wrong_deep p q w (deep_place s q f)))

  -- And so is refusal 15.
  pub deep_exactly : (p : ℕ) → (relation_of s ≡ RefusedAt 15 p → DeepAt s p) × (DeepAt s p → relation_of s ≡ RefusedAt 15 p)
  deep_exactly p = (deep_place s p, λ d. go d (relation_of s) refl)
    where
      go : DeepAt s p → (r : ResultAt (Chain Assignment)) → relation_of s ≡ r → relation_of s ≡ RefusedAt 15 p
      go d (Done t) e = absurd (deep_not_read p d t ((exactly s t).1 e))
      go d (RefusedAt k q) e =
          by_number k q e (only_two s k q e) (λ i j. relation_of s ≡ RefusedAt 15 p)
          (λ f. absurd (wrong_deep q p (wrong_place s q f) d)) (λ f. f ∙ ap (RefusedAt 15) (same_deep q p (deep_place s q f) d))
