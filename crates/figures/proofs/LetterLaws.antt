-- One letter of a few, and a currency's three.
use Prim.Native.Nat.{ℕ}
use mathlib.Core.Path.{◌≡◌, refl, sym, ◌∙◌, ap}
use mathlib.Core.Bool.{Bool, true, false, ◌&&◌, ◌||◌}
use mathlib.Core.List.{List, [], ◌∷◌}
use mathlib.Core.Option.{none}
use native.Mathlib.Omega.{arith}
use lib.Dec.{eqb}
use lib.ListN.{length, get_or}
use borrow.Author.Tests.{ne_eqb, eq-eqb, eqb-true, eqb-false}
use Rattle.rules.specs.Lists.{any, between}
use Rattle.file_rules.specs.PriceLine.{letter_in, is_currency}
use Rattle.rules.specs.Bytes.{capitals}
use Rattle.layout.specs.Reads.{only}
use Rattle.layout.specs.Ensures.{Says}
use Rattle.std.specs.List.{list_any}
use Rattle.std.specs.Prelude.{◌==◌}
use Rattle.fields.specs.Given.{Gives, GivesNone}
use Rattle.figures.specs.Figures.{CapitalsAre}

any_letter : (b : ℕ) (few : List ℕ) → list_any (λ y. y == b) few ≡ any (eqb b) few
any_letter b [] = refl
any_letter b (y ∷ few) = (λ i. by (eqb b y) refl i || any_letter b few i)
  where
    by : (x : Bool) → eqb b y ≡ x → eqb y b ≡ eqb b y
    by true e = eq-eqb y b (sym (eqb-true b y e)) ∙ sym e
    by false e = ne_eqb y b (λ f. eqb-false b y e (sym f)) ∙ sym e

module _ (few s : List ℕ) where
  one_letter : length s ≡ 1 → letter_in few s ≡ only (any (eqb (get_or s 0 0)) few) (get_or s 0 0)
  one_letter h = by s h
    where
      by : (s : List ℕ) → length s ≡ 1 → letter_in few s ≡ only (any (eqb (get_or s 0 0)) few) (get_or s 0 0)
      by [] h = absurd (omega arith)
      by (b ∷ []) h = refl
      by (b ∷ (c ∷ s)) h = absurd (omega arith)

  pub letter_is : length s ≡ 1 → list_any (λ y. y == get_or s 0 0) few ≡ true → Gives (letter_in few s) (get_or s 0 0)
  letter_is h e = record { is = one_letter h ∙ ap (λ b. only b (get_or s 0 0)) (sym (any_letter (get_or s 0 0) few) ∙ e) }

  pub letter_other : length s ≡ 1 → list_any (λ y. y == get_or s 0 0) few ≡ false → GivesNone (letter_in few s)
  letter_other h e = record { is = one_letter h ∙ ap (λ b. only b (get_or s 0 0)) (sym (any_letter (get_or s 0 0) few) ∙ e) }

  pub letter_none : (length s ≡ 1 → ⊥) → GivesNone (letter_in few s)
  letter_none h = record { is = by s h }
    where
      by : (s : List ℕ) → (length s ≡ 1 → ⊥) → letter_in few s ≡ none
      by [] h = refl
      by (b ∷ []) h = absurd (h refl)
      by (b ∷ (c ∷ s)) h = refl

module _ (s : List ℕ) where
  module _ {x y z : Bool} (h : length s ≡ 3) (p : Says (between 65 90 (get_or s 0 0)) x) (q : Says (between 65 90 (get_or s 1 0)) y)
      (r : Says (between 65 90 (get_or s 2 0)) z) where
    three_capitals : is_currency s ≡ (x && y && z)
    three_capitals = by s h ∙ rw (p.is, q.is, r.is) (three x y z)
      where
        by : (s : List ℕ) → length s ≡ 3
            → is_currency s ≡ (between 65 90 (get_or s 0 0) && (between 65 90 (get_or s 1 0) && (between 65 90 (get_or s 2 0) && true)))
        by [] h = absurd (omega arith)
        by (a ∷ []) h = absurd (omega arith)
        by (a ∷ (b ∷ [])) h = absurd (omega arith)
        by (a ∷ (b ∷ (c ∷ []))) h = refl
        by (a ∷ (b ∷ (c ∷ (d ∷ s)))) h = absurd (omega arith)

        three : (x y z : Bool) → (x && (y && (z && true))) ≡ (x && y && z)
        three true true true = refl
        three true true false = refl
        three true false z = refl
        three false y z = refl

    pub currency_is : (x && y && z) ≡ true → CapitalsAre s (record { 0 = get_or s 0 0; 1 = get_or s 1 0; 2 = get_or s 2 0 })
    currency_is e = record { good = three_capitals ∙ e; is = letters s h }
      where
        letters : (s : List ℕ) → length s ≡ 3 → s ≡ get_or s 0 0 ∷ get_or s 1 0 ∷ get_or s 2 0 ∷ []
        letters [] h = absurd (omega arith)
        letters (a ∷ []) h = absurd (omega arith)
        letters (a ∷ (b ∷ [])) h = absurd (omega arith)
        letters (a ∷ (b ∷ (c ∷ []))) h = refl
        letters (a ∷ (b ∷ (c ∷ (d ∷ s)))) h = absurd (omega arith)

    pub currency_bad : (x && y && z) ≡ false → Says (is_currency s) false
    currency_bad e = record { is = three_capitals ∙ e }

  pub currency_not : (length s ≡ 3 → ⊥) → Says (is_currency s) false
  currency_not h = record { is = ap (λ (b : Bool). b && capitals s) (ne_eqb (length s) 3 h) }
