-- "From rows to a total": the exact amount of a row, and its rounding.
use Rattle.std.specs.Prelude.{ℕ, suc, ◌+◌, ◌*◌, ◌/◌, ◌≤◌, ℤ, pos, negsuc, neg_ℤ, ◌+ℤ◌, ◌*ℤ◌, nat_abs}
use Rattle.integers.specs.Floor.{floor}
use Rattle.rules.specs.declared.Cents.{Cents}
use Rattle.rules.specs.declared.Value.{Value}
use Rattle.rules.specs.declared.Value.TheVariants.{Fixed, Percent}
use Rattle.rules.specs.declared.Way.{Way}
use Rattle.rules.specs.declared.Way.TheVariants.{Down, Up, Commercial}
use Rattle.rules.specs.declared.Rounding.{Rounding}
use Rattle.rules.specs.declared.Fraction.{Fraction}

-- a fixed value is the amount itself; h hundredths of a percent of some cents are h times them over 10,000
unfoldable pub exact : Value → ℤ → Fraction
exact (Fixed c) of = record { top = c.0; bottom = 1 }
exact (Percent h) of = record { top = h.0 *ℤ of; bottom = 10000 }

-- "Factors on conditions": so many thousandths of an amount
abbrev pub factored : ℕ → Fraction → Fraction
factored f x = record { top = x.top *ℤ pos f; bottom = x.bottom * 1000 }

-- the greatest whole number not above z / n is `floor z n`; this is the least one not below it
unfoldable pub ceiling : ℤ → ℕ → ℤ
ceiling z n = neg_ℤ (floor (neg_ℤ z) n)

-- the whole number nearest to a / n, a half to the greater
abbrev pub nearest_of : ℕ → ℕ → ℕ
nearest_of a n = (a * 2 + n) / (n * 2)

-- "Halves of a discount": counted from zero, either way, so that a half goes to the number farther from zero
unfoldable pub nearest : ℤ → ℕ → ℤ
nearest (pos a) n = pos (nearest_of a n)
nearest (negsuc a) n = neg_ℤ (pos (nearest_of (suc a) n))

-- an amount measured in steps, made whole by way
unfoldable pub steps_by : Way → ℤ → ℕ → ℤ
steps_by Down z n = floor z n
steps_by Up z n = ceiling z n
steps_by Commercial z n = nearest z n

-- an amount and some cents more
abbrev pub plus : Fraction → Cents → Fraction
plus x c = record { top = x.top +ℤ c.0 *ℤ pos x.bottom; bottom = x.bottom }

-- an amount brought to a multiple of the step
unfoldable pub multiple_by : Way → ℕ → Fraction → ℤ
multiple_by way step x = steps_by way x.top (x.bottom * step) *ℤ pos step

-- some cents are added before, and some after
unfoldable pub rounded : Rounding → Fraction → ℤ
rounded r x = multiple_by r.way r.step (plus x r.before) +ℤ r.after.0

-- a rounding as a book may have it, with the bounds of its layout
pub record SoundRounding (r : Rounding) : Type 0 where
  pub step_low : 1 ≤ r.step
  pub step_high : r.step ≤ 1_000_000
  pub before_in : nat_abs r.before.0 ≤ 1_000_000
  pub after_in : nat_abs r.after.0 ≤ 1_000_000
