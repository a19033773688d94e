-- `amounts::rounding::nearest` meets its contract: below zero by `nearest_below`, else by `nearest_above`.
use mathlib.Core.Path.{◌≡◌, ◌∙◌, ap}
use lib.IntN.{ℤ, pos, ◌-ℤ◌}
use mir.Syntax.{w64}
use mir.Val.{SFits}
use mir.ValLaws.{to_z-of_z}
use Rattle.integers.proofs.Signed.{ok64, lt_z_true, lt_z_false}
use Rattle.amounts.specs.Ensures.{from_half_on}
use Rattle.amounts.proofs.Steps.{nearest_above, nearest_below, turned_in, turned_fits, half_fits}
use Rattle.amounts.proofs.rounding.nearest.Goals as goal

pub overflow_sub-z : goal.overflow_sub-z
overflow_sub-z c = simp (to_z-of_z, c.ranges.z) (turned_fits c.args.z c.args.n c.requires)

pub from_half_on-requires : goal.from_half_on-requires
from_half_on-requires c =
    let s = c in
    simp (to_z-of_z, s.ranges.z, turned_fits s.args.z s.args.n s.requires) (turned_in s.args.z s.args.n s.requires)

module _ (c : goal.After-from_half_on) where
  abbrev z : ℤ
  z = c.args.z

  half_is : c.from_half_on.result ≡ from_half_on (pos 0 -ℤ z) c.args.n
  half_is =
      simp (to_z-of_z, c.ranges.z, turned_fits z c.args.n c.requires) at c.from_half_on.ensures

  result_fits : SFits w64 (pos 0 -ℤ c.from_half_on.result)
  result_fits = rw half_is (half_fits (pos 0 -ℤ z) c.args.n (turned_in z c.args.n c.requires))

pub overflow_sub-result : goal.overflow_sub-result
overflow_sub-result c = simp (to_z-of_z, ok64 c.from_half_on.result c.from_half_on.type_inv) (result_fits c)

pub returns-then-z-lt0 : goal.returns-then-z-lt0
returns-then-z-lt0 c =
    let s = c in
    let h = simp (to_z-of_z, s.ranges.z) at c.if-z-lt0.true in
    simp (to_z-of_z, ok64 c.from_half_on.result c.from_half_on.type_inv, result_fits c)
    (ap (λ (x : ℤ). pos 0 -ℤ x) (half_is c) ∙ nearest_below (z c) s.args.n (lt_z_true (z c) (pos 0) h))

pub returns-else-z-lt0 : goal.returns-else-z-lt0
returns-else-z-lt0 c =
    let s = c in
    let h = simp (to_z-of_z, s.ranges.z) at c.if-z-lt0.false in
    simp (to_z-of_z, ok64 c.from_half_on-else-z-lt0.result c.from_half_on-else-z-lt0.type_inv)
    ((simp (to_z-of_z, s.ranges.z) at c.from_half_on-else-z-lt0.ensures) ∙ nearest_above s.args.z s.args.n (lt_z_false s.args.z (pos 0) h))
