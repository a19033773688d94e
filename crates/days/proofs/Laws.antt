-- What the functions on days cite: each way out, in the words of the code's own tests.
use Prim.Native.Nat.{ℕ, ◌+◌, ◌-◌, ◌*◌, ◌≤◌, ◌<◌}
use mathlib.Core.Path.{◌≡◌, sym, ap, subst}
use mathlib.Core.Bool.{true, false, ◌&&◌, cond, and-false}
use mathlib.Core.List.{[], ◌∷◌}
use native.Mathlib.Omega.{arith}
use lib.Dec.{leb}
use lib.ListN.{get_or}
use borrow.Author.Tests.{le-leb, lt-leb}
use Rattle.rules.specs.Lists.{between}
use Rattle.rules.specs.Days.{year_of, month_of, day_of, first_day, last_day, leap, days_in, is_day, next}
use Rattle.rules.proofs.DayLaws.{next_in_month, next_in_year, next_in_next_year}

-- ---- months

pub leap_february : (y : ℕ) → leap y ≡ true → ◌≡◌ {A = ℕ} 29 (cond (leap y) 29 28)
leap_february y e = rw e

pub plain_february : (y : ℕ) → leap y ≡ false → ◌≡◌ {A = ℕ} 28 (cond (leap y) 29 28)
plain_february y e = rw e

pub month_at : (y m : ℕ) {february : ℕ} → february ≡ cond (leap y) 29 28
    → get_or (31 ∷ february ∷ 31 ∷ 30 ∷ 31 ∷ 30 ∷ 31 ∷ 31 ∷ 30 ∷ 31 ∷ 30 ∷ 31 ∷ []) (m - 1) 0 ≡ days_in y m
month_at y m e = ap (λ (f : ℕ). get_or (31 ∷ f ∷ 31 ∷ 30 ∷ 31 ∷ 30 ∷ 31 ∷ 31 ∷ 30 ∷ 31 ∷ 30 ∷ 31 ∷ []) (m - 1) 0) e

module _ (n : ℕ) where
  -- ---- a number that is no day for its month, and the tests of any other

  pub month_low : month_of n < 1 → false ≡ is_day n
  unfolding is_day
  month_low h = rw (lt-leb 1 (month_of n) h, and-false (between first_day last_day n))

  pub month_high : 12 < month_of n → false ≡ is_day n
  unfolding is_day
  month_high h = rw (lt-leb (month_of n) 12 h, and-false (leb 1 (month_of n)), and-false (between first_day last_day n))

  pub other_tests : {most : ℕ} → 1 ≤ month_of n → month_of n ≤ 12 → most ≡ days_in (year_of n) (month_of n)
      → ((leb first_day n && leb n last_day) && (leb 1 (day_of n) && leb (day_of n) most)) ≡ is_day n
  unfolding is_day
  other_tests h k e = rw (le-leb 1 (month_of n) h, le-leb (month_of n) 12 k, e)

  -- ---- the day after

  module _ {most : ℕ} (is : most ≡ days_in (year_of n) (month_of n)) where
    pub in_month : day_of n < most → n + 1 ≡ next n
    in_month h = sym (next_in_month n (subst (λ (k : ℕ). day_of n < k) is h))

    pub in_year : most ≤ day_of n → month_of n < 12 → year_of n * 10000 + (month_of n + 1) * 100 + 1 ≡ next n
    in_year h k = sym (next_in_year n (subst (λ (k : ℕ). k ≤ day_of n) is h) k)

    pub in_next_year : most ≤ day_of n → 12 ≤ month_of n → (year_of n + 1) * 10000 + 101 ≡ next n
    in_next_year h k = omega (arith, next_in_next_year n (subst (λ (k : ℕ). k ≤ day_of n) is h) k)
