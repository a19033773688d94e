-- What the functions of amounts ask and give. The bounds, on paper: a percentage of up to 10^5 is of up to 10^9 cents, that is 10^14 parts of which
-- 10^4 are a cent; by a factor of up to 10^4 thousandths it has 10^18 parts, 10^7 to a cent. A fixed amount stays far below, 10^8 times 10^4. What is
-- added before is up to 10^6 cents, 10^13 parts, and a step up to 10^6 cents, 10^13 parts too: so nothing that is counted in steps is over 1.00001
-- times 10^18 parts, twice a begun step is at most 2 times 10^13, and 64 bits hold 9 times 10^18.
use Rattle.std.specs.Prelude.{ℕ, ◌+◌, ◌*◌, ◌<◌, ◌≤◌, ◌≡◌, true, cond, ℤ, pos, nat_abs, ◌+ℤ◌, ◌*ℤ◌}
use Rattle.integers.specs.Floor.{floor}
use Rattle.rules.specs.Amounts.{exact, factored, rounded, SoundRounding}
use Rattle.rules.specs.Question.{most_factor}
use Rattle.rules.specs.Bytes.{either_side}
use Rattle.rules.specs.BookLayout.{in_bounds}
use Rattle.rules.specs.Lines.{most_total}
use Rattle.rules.specs.declared.Cents.{Cents}
use Rattle.rules.specs.declared.Value.{Value}
use Rattle.rules.specs.declared.Rounding.{Rounding}
use Rattle.rules.specs.declared.Fraction.{Fraction}
use Rattle.rules.specs.declared.Total.{Total}
use Rattle.rules.specs.declared.Total.TheVariants.{InRange, OutOfRange}

-- ---- the exact amount

-- a value as a book may have it, and a total as a percentage may be of
pub record BookValue (value : Value) (of : ℤ) : Type 0 where
  pub value_in : in_bounds value ≡ true
  pub of_in : nat_abs of ≤ most_total

pub record ExactAmount (value : Value) (of : ℤ) (r : Fraction) : Type 0 where
  pub is : r ≡ exact value of
  pub top_in : nat_abs r.top ≤ 100_000_000_000_000
  pub low : 1 ≤ r.bottom
  pub high : r.bottom ≤ 10_000

-- ---- its factor

-- a factor as a question may have it, and the exact amount of a row
pub record Factorable (factor : ℕ) (x : Fraction) : Type 0 where
  pub factor_in : factor ≤ most_factor
  pub top_in : nat_abs x.top ≤ 100_000_000_000_000
  pub low : 1 ≤ x.bottom
  pub high : x.bottom ≤ 10_000

-- whatever the rounding, `r` is rounded as the amount times the factor is
pub record FactoredAmount (factor : ℕ) (x r : Fraction) : Type 0 where
  pub rounds : (rounding : Rounding) → rounded rounding r ≡ rounded rounding (factored factor x)
  pub top_in : nat_abs r.top ≤ 1_000_000_000_000_000_000
  pub low : 1 ≤ r.bottom
  pub high : r.bottom ≤ 10_000_000

-- ---- rounding

-- z parts, n to a step
pub record InSteps (z : ℤ) (n : ℕ) : Type 0 where
  pub some : 0 < n
  pub few : n ≤ 10_000_000_000_000
  pub z_in : nat_abs z ≤ 1_000_010_000_000_000_000

-- how many steps they are if one that is begun counts from its half on
abbrev pub from_half_on : ℤ → ℕ → ℤ
from_half_on z n = floor (z *ℤ pos 2 +ℤ pos n) (n * 2)

-- a rounding as a book may have it, and an amount
pub record Roundable (r : Rounding) (x : Fraction) : Type 0 where
  pub sound : SoundRounding r
  pub top_in : nat_abs x.top ≤ 1_000_000_000_000_000_000
  pub low : 1 ≤ x.bottom
  pub high : x.bottom ≤ 10_000_000

pub record RoundedCents (r : Rounding) (x : Fraction) (m : Cents) : Type 0 where
  pub is : m.0 ≡ rounded r x
  pub near : nat_abs m.0 ≤ nat_abs x.top + 3_000_000

-- ---- the running total

-- a total so far, and one more line
pub record Addable (total amount : ℤ) : Type 0 where
  pub total_in : nat_abs total ≤ most_total
  pub amount_in : nat_abs amount ≤ 1_000_000_000_003_000_000

-- the total after one more line
unfoldable pub total_after : ℤ → ℤ → Total
total_after total amount = cond (either_side most_total (total +ℤ amount)) (InRange (record { 0 = total +ℤ amount })) OutOfRange
