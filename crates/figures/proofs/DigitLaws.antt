-- Digits make a number; above the greatest it never comes back.
use Prim.Native.Nat.{ℕ, ◌+◌, ◌*◌, ◌-◌, ◌^◌, ◌≤◌, ◌<◌}
use mathlib.Core.Path.{◌≡◌, refl, sym, ◌∙◌, ap}
use mathlib.Core.Bool.{Bool, true, false, ◌&&◌}
use mathlib.Core.List.{List, [], ◌∷◌}
use mathlib.Core.Option.{Option, some, none, none-ne-some, some-injective}
use native.Mathlib.Omega.{arith}
use lib.Dec.{leb}
use lib.ListN.{length, drop, get_or, drop_of_length-le}
use borrow.Author.Tests.{le-leb, lt-leb, leb-true, leb-false, eq-eqb, ne_eqb}
use Rattle.rules.specs.Lists.{all, if_some}
use Rattle.file_rules.specs.Decimals.{is_digit, tens_from, tens, quantity_in, date_in}
use Rattle.file_rules.proofs.DecimalLaws.{tens_grows}
use Rattle.rules.proofs.TestLaws.{and_false, is_between}
use Rattle.file_rules.proofs.LineSoundLaws.{tens_below}
use Rattle.layout.specs.Reads.{only}
use Rattle.fields.specs.Given.{Gives, GivesNone}
use Rattle.figures.specs.Figures.{one_digit, up_to, tens_in}
use Rattle.fields.proofs.PartLaws.{next_byte}

-- ---- one digit

module _ (most n b : ℕ) where
  none_digit : is_digit b ≡ false → GivesNone (one_digit most n b)
  none_digit e = record { is = ap (λ (t : Bool). only (t && leb (n * 10 + (b - 48)) most) (n * 10 + (b - 48))) e }

  pub digit_low : b < 48 → GivesNone (one_digit most n b)
  digit_low h = none_digit (ap (λ (t : Bool). t && leb b 57) (lt-leb 48 b h))

  pub digit_high : 57 < b → GivesNone (one_digit most n b)
  digit_high h = none_digit (ap (λ (t : Bool). leb 48 b && t) (lt-leb b 57 h) ∙ and_false (leb 48 b))

  module _ (h : 48 ≤ b) (g : b ≤ 57) where
    by_sum : (t : Bool) → leb (n * 10 + (b - 48)) most ≡ t → one_digit most n b ≡ only t (n * 10 + (b - 48))
    by_sum t e =
        ap (λ (u : Bool). only (u && leb (n * 10 + (b - 48)) most) (n * 10 + (b - 48))) (is_between 48 57 b h g)
        ∙ ap (λ (u : Bool). only u (n * 10 + (b - 48))) e

    pub digit_fits : n * 10 + (b - 48) ≤ most → Gives (one_digit most n b) (n * 10 + (b - 48))
    digit_fits l = record { is = by_sum true (le-leb (n * 10 + (b - 48)) most l) }

    pub digit_over : most < n * 10 + (b - 48) → GivesNone (one_digit most n b)
    digit_over l = record { is = by_sum false (lt-leb (n * 10 + (b - 48)) most l) }

-- ---- one digit after the other

pub over_none : (most m : ℕ) (t : List ℕ) → most < m → up_to most (tens_in m t) ≡ none
over_none most m t h = by (all is_digit t) (lt-leb (tens_from m t) most (omega (arith, tens_grows m t)))
  where
    by : (x : Bool) → leb (tens_from m t) most ≡ false → up_to most (only x (tens_from m t)) ≡ none
    by true e = ap (λ b. only b (tens_from m t)) e
    by false e = refl

pub digit_step : (most n b : ℕ) (t : List ℕ)
    → up_to most (tens_in n (b ∷ t)) ≡ if_some (one_digit most n b) none (λ (m : ℕ). up_to most (tens_in m t))
digit_step most n b t = by (is_digit b) (leb (n * 10 + (b - 48)) most) refl
  where
    by : (x y : Bool) → leb (n * 10 + (b - 48)) most ≡ y
        → up_to most (only (x && all is_digit t) (tens_from (n * 10 + (b - 48)) t))
        ≡ if_some (only (x && y) (n * 10 + (b - 48))) none (λ (m : ℕ). up_to most (tens_in m t))
    by true true e = refl
    by true false e = over_none most (n * 10 + (b - 48)) t (leb-false (n * 10 + (b - 48)) most e)
    by false y e = refl

-- what stands behind a digit that is there, and behind one that is not
pub step_on : (most n b : ℕ) {m : ℕ} (t : List ℕ) → Gives (one_digit most n b) m → up_to most (tens_in n (b ∷ t)) ≡ up_to most (tens_in m t)
step_on most n b t p = digit_step most n b t ∙ ap (λ (o : Option ℕ). if_some o none (λ (m : ℕ). up_to most (tens_in m t))) p.is

pub step_none : (most n b : ℕ) (t : List ℕ) → GivesNone (one_digit most n b) → up_to most (tens_in n (b ∷ t)) ≡ none
step_none most n b t p = digit_step most n b t ∙ ap (λ (o : Option ℕ). if_some o none (λ (m : ℕ). up_to most (tens_in m t))) p.is

-- the numbers given are not above the greatest
pub only_below : (most t : ℕ) {r : ℕ} → only (leb t most) t ≡ some r → r ≤ most
only_below most t {r} e = by (leb t most) refl e
  where
    by : (y : Bool) → leb t most ≡ y → only y t ≡ some r → r ≤ most
    by true f g = omega (arith, leb-true t most f, some-injective t r g)
    by false f g = absurd (none-ne-some r g)

pub given_below : {most : ℕ} (o : Option ℕ) {r : ℕ} → up_to most o ≡ some r → r ≤ most
given_below none {r = r} e = absurd (none-ne-some r e)
given_below {most} (some t) e = only_below most t e

pub digit_below : (most n b : ℕ) {r : ℕ} → Gives (one_digit most n b) r → r ≤ most
digit_below most n b {r = r} p = by (is_digit b) p.is
  where
    by : (x : Bool) → only (x && leb (n * 10 + (b - 48)) most) (n * 10 + (b - 48)) ≡ some r → r ≤ most
    by true e = only_below most (n * 10 + (b - 48)) e
    by false e = absurd (none-ne-some r e)

pub record DigitsFrom (most : ℕ) (s : List ℕ) (n i : ℕ) : Type 0 where
  pub is : up_to most (tens_in 0 s) ≡ up_to most (tens_in n (drop i s))
  pub below : n ≤ most
  pub fits : i ≤ length s

module _ {most : ℕ} {s : List ℕ} where
  pub digits_start : DigitsFrom most s 0 0
  digits_start = record { is = refl; below = omega arith; fits = omega arith }

  module _ {n i : ℕ} (p : DigitsFrom most s n i) where
    here : i < length s → up_to most (tens_in 0 s) ≡ up_to most (tens_in n (get_or s i 0 ∷ drop (i + 1) s))
    here l = p.is ∙ ap (λ u. up_to most (tens_in n u)) (next_byte s i l)

    pub digits_on : {r : ℕ} → i < length s → Gives (one_digit most n (get_or s i 0)) r → DigitsFrom most s r (i + 1)
    digits_on l q = record { is = here l ∙ step_on most n (get_or s i 0) (drop (i + 1) s) q; below = digit_below most n (get_or s i 0) q; fits = omega arith }

    pub digits_none : i < length s → GivesNone (one_digit most n (get_or s i 0)) → GivesNone (up_to most (tens_in 0 s))
    digits_none l q = record { is = here l ∙ step_none most n (get_or s i 0) (drop (i + 1) s) q }

    pub digits_end : length s ≤ i → Gives (up_to most (tens_in 0 s)) n
    digits_end g =
        record {
          is = p.is
              ∙ (ap (λ u. up_to most (tens_in n u)) (drop_of_length-le s {i = i} g) ∙ ap (λ (b : Bool). only b n) (le-leb n most p.below));
        }

-- ---- a quantity and a date: a number of digits, where there are enough of them

pub quantity_none : (s : List ℕ) → length s ≡ 0 → GivesNone (quantity_in s)
unfolding quantity_in
quantity_none s h =
    record {
      is = ap (λ (y : Bool). only (all is_digit s && (y && leb (tens s) 4294967295)) (tens s)) (lt-leb 1 (length s) (omega arith))
          ∙ ap (λ (b : Bool). only b (tens s)) (and_false (all is_digit s));
    }

pub quantity_is : (s : List ℕ) → (length s ≡ 0 → ⊥) → quantity_in s ≡ up_to 4294967295 (tens_in 0 s)
unfolding quantity_in
quantity_is s h =
    ap (λ (y : Bool). only (all is_digit s && (y && leb (tens s) 4294967295)) (tens s)) (le-leb 1 (length s) (omega arith)) ∙ by (all is_digit s)
  where
    by : (x : Bool) → only (x && (true && leb (tens s) 4294967295)) (tens s) ≡ up_to 4294967295 (only x (tens s))
    by true = refl
    by false = refl

pub date_blank : (s : List ℕ) → length s ≡ 0 → Gives (date_in s) 0
unfolding date_in
date_blank s h = record { is = by s h }
  where
    by : (s : List ℕ) → length s ≡ 0 → date_in s ≡ some 0
    by [] h = refl
    by (d ∷ ds) h = absurd (omega arith)

pub date_size : (s : List ℕ) → (length s ≡ 0 → ⊥) → (length s ≡ 8 → ⊥) → GivesNone (date_in s)
unfolding date_in
date_size s h k = record { is = by s h k }
  where
    by : (s : List ℕ) → (length s ≡ 0 → ⊥) → (length s ≡ 8 → ⊥) → date_in s ≡ none
    by [] h k = absurd (h refl)
    by (d ∷ ds) h k =
        ap (λ (b : Bool). only (all is_digit (d ∷ ds) && b) (tens (d ∷ ds))) (ne_eqb (length (d ∷ ds)) 8 k)
        ∙ ap (λ (b : Bool). only b (tens (d ∷ ds))) (and_false (all is_digit (d ∷ ds)))

pub date_is : (s : List ℕ) → length s ≡ 8 → date_in s ≡ up_to 99999999 (tens_in 0 s)
unfolding date_in
date_is [] h = absurd (omega arith)
date_is (d ∷ ds) h =
    ap (λ (b : Bool). only (all is_digit (d ∷ ds) && b) (tens (d ∷ ds))) (eq-eqb (length (d ∷ ds)) 8 h) ∙ by (all is_digit (d ∷ ds)) refl
  where
    by : (x : Bool) → all is_digit (d ∷ ds) ≡ x → only (x && true) (tens (d ∷ ds)) ≡ up_to 99999999 (only x (tens (d ∷ ds)))
    by false e = refl
    by true e =
        let b : tens (d ∷ ds) < 1 * 10 ^ length (d ∷ ds) = tens_below 0 (d ∷ ds) e in
        let p : 10 ^ length (d ∷ ds) ≡ 100_000_000 = ap (λ (k : ℕ). 10 ^ k) h in
        let q : 1 * 10 ^ length (d ∷ ds) ≡ 100_000_000 = ap (λ (k : ℕ). 1 * k) p in
        sym (ap (λ (c : Bool). only c (tens (d ∷ ds))) (le-leb (tens (d ∷ ds)) 99999999 (omega (arith, q))))
