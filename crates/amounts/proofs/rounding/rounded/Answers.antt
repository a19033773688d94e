-- `amounts::rounding::rounded` meets its contract: RoundedLaws says of each number on the way that it fits, and what it is.
use mathlib.Core.Path.{◌≡◌}
use native.Mathlib.Omega.{arith}
use lib.IntN.{ℤ, pos, ◌+ℤ◌, ◌*ℤ◌}
use mir.Syntax.{w64}
use mir.Val.{to_z, of_z}
use mir.ValLaws.{to_z-of_z}
use Rattle.integers.proofs.Signed.{ok64}
use Rattle.rules.specs.declared.Rounding.{Rounding}
use Rattle.rules.specs.declared.Fraction.{Fraction}
use Rattle.amounts.specs.Ensures.{Roundable}
use Rattle.amounts.proofs.RoundedLaws.{extra, multiple, before_fits, after_fits, top_fits, bottom_is, step_is, extra_fits, raised_fits}
use Rattle.amounts.proofs.RoundedLaws.{parts_in, in_steps, multiple_fits, multiple_is, rounded_fits, rounded_is}
use Rattle.amounts.proofs.rounding.rounded.Goals as goal

-- ---- up to the count of steps, where `top` and `n` are what is counted
module _ (r : Rounding) (x : Fraction) (pre : Roundable r x) where
  abbrev before : ℤ
  before = to_z w64 (of_z w64 r.before.0) *ℤ to_z w64 x.bottom

  before_is : before ≡ extra r x pre
  before_is = simp (to_z-of_z, before_fits r x pre, bottom_is r x pre)

  top_is : to_z w64 (of_z w64 x.top) +ℤ to_z w64 (of_z w64 before) ≡ x.top +ℤ extra r x pre
  top_is = rw before_is (simp (to_z-of_z, top_fits r x pre, extra_fits r x pre))

pub overflow_mul-top : goal.overflow_mul-top
overflow_mul-top c = rw (before_is c.args.r c.args.x c.requires) (extra_fits c.args.r c.args.x c.requires)

pub overflow_add-top : goal.overflow_add-top
overflow_add-top c = rw (top_is c.args.r c.args.x c.requires) (raised_fits c.args.r c.args.x c.requires)

pub overflow_mul-bottom : goal.overflow_mul-bottom
overflow_mul-bottom c =
    record { fits = omega (arith, parts_in c.args.r c.args.x c.requires) }

pub steps_by-steps-requires : goal.steps_by-steps-requires
steps_by-steps-requires c =
    rw (top_is c.args.r c.args.x c.requires) (simp (to_z-of_z, raised_fits c.args.r c.args.x c.requires) (in_steps c.args.r c.args.x c.requires))

-- ---- after it
module _ (c : goal.After-steps_by-steps) where
  abbrev r : Rounding
  r = c.args.r

  abbrev x : Fraction
  x = c.args.x

  cents_are : c.steps_by-steps.result *ℤ pos r.step ≡ multiple r x c.requires
  cents_are =
      multiple_is r x c.requires c.steps_by-steps.result
      (simp (to_z-of_z, raised_fits r x c.requires) at (rw (top_is r x c.requires) at c.steps_by-steps.ensures))

  product_is : to_z w64 (of_z w64 c.steps_by-steps.result) *ℤ to_z w64 r.step ≡ multiple r x c.requires
  product_is = simp (to_z-of_z, ok64 c.steps_by-steps.result c.steps_by-steps.type_inv, step_is r x c.requires) cents_are

pub overflow_mul-result : goal.overflow_mul-result
overflow_mul-result c = rw (product_is c) (multiple_fits c.args.r c.args.x c.requires)

pub overflow_add-result : goal.overflow_add-result
overflow_add-result c =
    let r = c.args.r in
    let x = c.args.x in
    rw (product_is c) (simp (to_z-of_z, multiple_fits r x c.requires, after_fits r x c.requires) (rounded_fits r x c.requires))

pub returns : goal.returns
returns c =
    let r = c.args.r in
    let x = c.args.x in
    rw (product_is c)
    (simp (to_z-of_z, multiple_fits r x c.requires, after_fits r x c.requires, rounded_fits r x c.requires) (rounded_is r x c.requires))
