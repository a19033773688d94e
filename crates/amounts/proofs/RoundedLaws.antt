-- The numbers on the way to a rounded amount: that they fit, and what they are.
use Prim.Native.Nat.{ℕ, ◌+◌, ◌*◌, ◌≤◌}
use mathlib.Core.Path.{◌≡◌, refl, ap}
use native.Mathlib.Nat.{mul-le-mul}
use native.Mathlib.Omega.{arith}
use lib.IntN.{ℤ, pos, nat_abs, ◌+ℤ◌, ◌*ℤ◌}
use mir.Syntax.{w64}
use mir.Val.{SFits, to_z, of_z}
use mir.ValLaws.{to_z-of_z, to_z_pos}
use Rattle.integers.specs.Floor.{floor}
use Rattle.integers.proofs.Signed.{fits64, abs_add, abs_mul}
use Rattle.rules.specs.Amounts.{ceiling, nearest, steps_by, plus, multiple_by, rounded}
use Rattle.rules.proofs.RoundingLaws.{plus_bound}
use Rattle.rules.specs.declared.Way.{Way}
use Rattle.rules.specs.declared.Way.TheVariants.{Down, Up, Commercial}
use Rattle.rules.specs.declared.Rounding.{Rounding}
use Rattle.rules.specs.declared.Fraction.{Fraction}
use Rattle.amounts.specs.Ensures.{InSteps, Roundable, RoundedCents}

-- ---- the three ways: z as code passes it on
module _ (way : Way) (z r : ℤ) (n : ℕ) (fits : SFits w64 z) where
  pub by_down : way ≡ Down → r ≡ floor (to_z w64 (of_z w64 z)) n → r ≡ steps_by way z n
  unfolding steps_by
  by_down w e = rw (w, ← to_z-of_z w64 z fits) e

  pub by_up : way ≡ Up → r ≡ ceiling (to_z w64 (of_z w64 z)) n → r ≡ steps_by way z n
  unfolding steps_by
  by_up w e = rw (w, ← to_z-of_z w64 z fits) e

  pub by_nearest : way ≡ Commercial → r ≡ nearest (to_z w64 (of_z w64 z)) n → r ≡ steps_by way z n
  unfolding steps_by
  by_nearest w e = rw (w, ← to_z-of_z w64 z fits) e

-- ---- rounding
module _ (r : Rounding) (x : Fraction) (ok : Roundable r x) where
  -- the cents added before, in parts
  abbrev pub extra : ℤ
  extra = r.before.0 *ℤ pos x.bottom

  extra_in : nat_abs extra ≤ 10_000_000_000_000
  extra_in = omega (arith, abs_mul r.before.0 (pos x.bottom), mul-le-mul ok.sound.before_in ok.high)

  pub extra_fits : SFits w64 extra
  extra_fits = fits64 extra (omega (arith, extra_in))

  raised_in : nat_abs (x.top +ℤ extra) ≤ 1_000_010_000_000_000_000
  raised_in = omega (arith, extra_in, abs_add x.top extra)

  pub raised_fits : SFits w64 (x.top +ℤ extra)
  raised_fits = fits64 (x.top +ℤ extra) (omega (arith, raised_in))

  pub parts_in : x.bottom * r.step ≤ 10_000_000_000_000
  parts_in = omega (arith, mul-le-mul ok.high ok.sound.step_high)

  pub in_steps : InSteps (x.top +ℤ extra) (x.bottom * r.step)
  in_steps = record {
    some = omega (arith, mul-le-mul ok.low ok.sound.step_low);
    few = parts_in;
    z_in = raised_in;
  }

  -- the multiple of the step
  abbrev pub multiple : ℤ
  multiple = multiple_by r.way r.step (plus x r.before)

  multiple_in : nat_abs multiple ≤ nat_abs x.top + 2_000_000
  multiple_in = omega (arith, plus_bound r x ok.low ok.sound.step_low)

  pub multiple_fits : SFits w64 multiple
  multiple_fits = fits64 multiple (omega (arith, multiple_in))

  pub rounded_fits : SFits w64 (multiple +ℤ r.after.0)
  rounded_fits = fits64 (multiple +ℤ r.after.0) (omega (arith, multiple_in, abs_add multiple r.after.0))

  pub multiple_is : (q : ℤ) → q ≡ steps_by r.way (x.top +ℤ extra) (x.bottom * r.step) → q *ℤ pos r.step ≡ multiple
  unfolding multiple_by
  multiple_is q e = ap (λ (k : ℤ). k *ℤ pos r.step) e

  pub rounded_is : RoundedCents r x (record { 0 = multiple +ℤ r.after.0 })
  unfolding rounded
  rounded_is = record { is = refl; near = omega (arith, multiple_in, abs_add multiple r.after.0) }

  -- the fields that are cast or read
  pub bottom_is : to_z w64 x.bottom ≡ pos x.bottom
  bottom_is = to_z_pos w64 x.bottom (omega arith)

  pub step_is : to_z w64 r.step ≡ pos r.step
  step_is = to_z_pos w64 r.step (omega arith)

  pub before_fits : SFits w64 r.before.0
  before_fits = fits64 r.before.0 (omega arith)

  pub after_fits : SFits w64 r.after.0
  after_fits = fits64 r.after.0 (omega arith)

  pub top_fits : SFits w64 x.top
  top_fits = fits64 x.top (omega arith)
