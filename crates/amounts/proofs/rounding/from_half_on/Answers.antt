-- `amounts::rounding::from_half_on` meets its contract: what is left over is less than a step, and `half_full` and `half_next` say what its half decides.
use Prim.Native.Nat.{ℕ, ◌≤◌}
use mathlib.Core.Path.{◌≡◌}
use native.Mathlib.Omega.{arith}
use lib.IntN.{ℤ, pos, nat_abs, ◌+ℤ◌, ◌-ℤ◌, ◌*ℤ◌}
use mir.Syntax.{w64}
use mir.Val.{SFits, to_z}
use mir.ValLaws.{to_z-of_z, to_z_pos}
use Rattle.integers.specs.Floor.{floor}
use Rattle.integers.proofs.Signed.{fits64, ok64, abs_add, abs_mul, lt_z_true, lt_z_false}
use Rattle.integers.proofs.FloorLaws.{floor_abs}
use Rattle.amounts.specs.Ensures.{InSteps}
use Rattle.amounts.proofs.Steps.{full_in, left_in, half_full, half_next}
use Rattle.amounts.proofs.rounding.from_half_on.Goals as goal

-- ---- after the count of full steps: the numbers on the way, and that they fit
module _ (z : ℤ) (n : ℕ) (pre : InSteps z n) (full : ℤ) (full_is : full ≡ floor z n) where
  abbrev step : ℤ
  step = pos n

  cast : to_z w64 n ≡ step
  cast = to_z_pos w64 n (omega (arith, pre.few))

  parts_fit : SFits w64 (full *ℤ step)
  parts_fit = fits64 (full *ℤ step) (omega (arith, full_in z full n pre.some full_is, pre.few, pre.z_in))

  left_small : nat_abs (z -ℤ full *ℤ step) ≤ 10_000_000_000_000
  left_small = omega (arith, left_in z full n pre.some full_is, pre.few)

  left_fits : SFits w64 (z -ℤ full *ℤ step)
  left_fits = fits64 (z -ℤ full *ℤ step) (omega (arith, left_small))

  twice_fits : SFits w64 ((z -ℤ full *ℤ step) *ℤ pos 2)
  twice_fits = fits64 ((z -ℤ full *ℤ step) *ℤ pos 2) (omega (arith, left_small, abs_mul (z -ℤ full *ℤ step) (pos 2)))

  next_fits : SFits w64 (full +ℤ pos 1)
  next_fits = fits64 (full +ℤ pos 1) (rw full_is (omega (arith, floor_abs z n, abs_add (floor z n) (pos 1), pre.z_in)))

pub overflow_mul-begun : goal.overflow_mul-begun
overflow_mul-begun c =
    let z = c.args.z in
    let n = c.args.n in
    let full = c.full-steps.result in
    let pre = c.requires in
    let is : full ≡ floor z n = simp (to_z-of_z, c.ranges.z) at c.full-steps.ensures in
    let fits : SFits w64 full = ok64 full c.full-steps.type_inv in
    simp (to_z-of_z, cast z n pre full is, fits) (parts_fit z n pre full is)

pub overflow_sub-begun : goal.overflow_sub-begun
overflow_sub-begun c =
    let z = c.args.z in
    let n = c.args.n in
    let full = c.full-steps.result in
    let pre = c.requires in
    let is : full ≡ floor z n = simp (to_z-of_z, c.ranges.z) at c.full-steps.ensures in
    let fits : SFits w64 full = ok64 full c.full-steps.type_inv in
    simp (to_z-of_z, cast z n pre full is, fits, c.ranges.z, parts_fit z n pre full is) (left_fits z n pre full is)

pub overflow_mul-begun-2 : goal.overflow_mul-begun-2
overflow_mul-begun-2 c =
    let z = c.args.z in
    let n = c.args.n in
    let full = c.full-steps.result in
    let pre = c.requires in
    let is : full ≡ floor z n = simp (to_z-of_z, c.ranges.z) at c.full-steps.ensures in
    let fits : SFits w64 full = ok64 full c.full-steps.type_inv in
    simp (to_z-of_z, cast z n pre full is, fits, c.ranges.z, parts_fit z n pre full is, left_fits z n pre full is) (twice_fits z n pre full is)

pub overflow_add-result : goal.overflow_add-result
overflow_add-result c =
    let z = c.args.z in
    let n = c.args.n in
    let full = c.full-steps.result in
    let pre = c.requires in
    let is : full ≡ floor z n = simp (to_z-of_z, c.ranges.z) at c.full-steps.ensures in
    let fits : SFits w64 full = ok64 full c.full-steps.type_inv in
    simp (to_z-of_z, fits) (next_fits z n pre full is)

pub returns-then-begun-n : goal.returns-then-begun-n
returns-then-begun-n c =
    let z = c.args.z in
    let n = c.args.n in
    let full = c.full-steps.result in
    let pre = c.requires in
    let is : full ≡ floor z n = simp (to_z-of_z, c.ranges.z) at c.full-steps.ensures in
    let fits : SFits w64 full = ok64 full c.full-steps.type_inv in
    let h = simp (to_z-of_z, cast z n pre full is, fits, c.ranges.z, parts_fit z n pre full is, left_fits z n pre full is, twice_fits z n pre full is) at c.if-begun-n.true in
    simp (to_z-of_z, fits) (half_full z full n pre.some is (lt_z_true _ _ h))

pub returns-else-begun-n : goal.returns-else-begun-n
returns-else-begun-n c =
    let z = c.args.z in
    let n = c.args.n in
    let full = c.full-steps.result in
    let pre = c.requires in
    let is : full ≡ floor z n = simp (to_z-of_z, c.ranges.z) at c.full-steps.ensures in
    let fits : SFits w64 full = ok64 full c.full-steps.type_inv in
    let h = simp (to_z-of_z, cast z n pre full is, fits, c.ranges.z, parts_fit z n pre full is, left_fits z n pre full is, twice_fits z n pre full is) at c.if-begun-n.false in
    simp (to_z-of_z, fits, next_fits z n pre full is) (half_next z full n pre.some is (lt_z_false _ _ h))
