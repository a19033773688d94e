-- `amounts::rounding::down` meets its contract: below zero by `down_below`, and from zero up as `full` has it.
use mathlib.Core.Path.{◌≡◌, ◌∙◌, ap}
use lib.IntN.{ℤ, pos, negsuc, ◌-ℤ◌}
use lib.Signed.{◌<ℤ◌}
use mir.Syntax.{w64}
use mir.Val.{SFits}
use mir.ValLaws.{to_z-of_z}
use Rattle.integers.specs.Floor.{floor}
use Rattle.integers.proofs.Signed.{ok64, flip_fits, lt_z_true}
use Rattle.amounts.proofs.Steps.{down_below, others_fit, last_fits}
use Rattle.amounts.proofs.rounding.down.Goals as goal

-- ---- below zero
below : (c : goal.Then-z-lt0) → c.args.z <ℤ pos 0
below c = lt_z_true c.args.z (pos 0) (simp (to_z-of_z, c.ranges.z) at c.if-z-lt0.true)

left_fits : (c : goal.Then-z-lt0) → SFits w64 (negsuc 0 -ℤ c.args.z)
left_fits c = (flip_fits c.args.z (below c) c.ranges.z).1

module _ (c : goal.After-full) where
  under : c.args.z <ℤ pos 0
  under = lt_z_true c.args.z (pos 0) (simp (to_z-of_z, c.ranges.z) at c.if-z-lt0.true)

  full_is : c.full.result ≡ floor (negsuc 0 -ℤ c.args.z) c.args.n
  full_is = simp (to_z-of_z, c.ranges.z, (flip_fits c.args.z under c.ranges.z).1) at c.full.ensures

  turned_fits : SFits w64 (pos 0 -ℤ c.full.result)
  turned_fits = rw full_is (others_fit c.args.z c.args.n under c.ranges.z)

  result_fits : SFits w64 (pos 0 -ℤ c.full.result -ℤ pos 1)
  result_fits = rw full_is (last_fits c.args.z c.args.n under c.ranges.z)

pub overflow_sub-z : goal.overflow_sub-z
overflow_sub-z c = simp (to_z-of_z, c.ranges.z) (left_fits c)

pub overflow_sub-result : goal.overflow_sub-result
overflow_sub-result c = simp (to_z-of_z, ok64 c.full.result c.full.type_inv) (turned_fits c)

pub overflow_sub-result-then-z-lt0 : goal.overflow_sub-result-then-z-lt0
overflow_sub-result-then-z-lt0 c = simp (to_z-of_z, ok64 c.full.result c.full.type_inv, turned_fits c) (result_fits c)

pub returns-then-z-lt0 : goal.returns-then-z-lt0
returns-then-z-lt0 c =
    simp (to_z-of_z, ok64 c.full.result c.full.type_inv, turned_fits c, result_fits c)
    (ap (λ (x : ℤ). pos 0 -ℤ x -ℤ pos 1) (full_is c) ∙ down_below c.args.z c.args.n (under c))

pub returns : goal.returns
returns c = simp (to_z-of_z, ok64 c.full-2.result c.full-2.type_inv) (simp (to_z-of_z, c.ranges.z) at c.full-2.ensures)
