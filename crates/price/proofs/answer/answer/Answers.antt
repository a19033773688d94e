-- `price::answer::answer` meets its contract: the quantity times the unit total fits, and the set has at most 32 ones.
use Prim.Native.Nat.{ℕ, ◌≤◌}
use mathlib.Core.Path.{◌≡◌, refl}
use native.Mathlib.Omega.{arith}
use lib.IntN.{ℤ, pos, nat_abs, ◌*ℤ◌}
use mir.Syntax.{w64}
use mir.Val.{SFits, to_z}
use mir.ValLaws.{to_z-of_z}
use Rattle.rules.specs.Lines.{most_total}
use Rattle.integers.proofs.Signed.{cast64, within64, mul64}
use Rattle.price.proofs.answer.answer.Goals as goal

module _ (quantity : ℕ) (unit : ℤ) (low : quantity ≤ 100_000) (near : nat_abs unit ≤ most_total) where
  cast : to_z w64 quantity ≡ pos quantity
  cast = cast64 quantity 100_000 low tt

  unit_fits : SFits w64 unit
  unit_fits = within64 unit most_total near tt

  total_fits : SFits w64 (pos quantity *ℤ unit)
  total_fits = mul64 (pos quantity) unit 100_000 most_total low near tt

pub overflow_mul-result : goal.overflow_mul-result
overflow_mul-result c =
    let q = c.args.quantity in
    let u = c.args.outcome.unit.0 in
    let low = c.requires.quantity_bound in
    let near = c.requires.unit_bound in
    simp (to_z-of_z, cast q u low near, unit_fits q u low near) (total_fits q u low near)

pub overflow_cast-result-2 : goal.overflow_cast-result-2
overflow_cast-result-2 c = omega (arith, c.count-count.ensures.few)

pub returns : goal.returns
returns c =
    let q = c.args.quantity in
    let u = c.args.outcome.unit.0 in
    let low = c.requires.quantity_bound in
    let near = c.requires.unit_bound in
    simp (to_z-of_z, cast q u low near, unit_fits q u low near, total_fits q u low near, c.count-count.ensures.is) refl
