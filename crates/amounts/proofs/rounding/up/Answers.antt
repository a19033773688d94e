-- `amounts::rounding::up` meets its contract: above zero by `up_above`, else by `up_below`.
use Prim.Native.Nat.{ℕ}
use mathlib.Core.Path.{◌≡◌, ◌∙◌, ap}
use native.Mathlib.Omega.{arith}
use lib.IntN.{ℤ, pos, neg_ℤ, ◌+ℤ◌, ◌-ℤ◌}
use mir.Syntax.{w64}
use mir.Val.{SFits}
use mir.ValLaws.{to_z-of_z}
use Rattle.integers.specs.Floor.{floor}
use Rattle.integers.proofs.FloorLaws.{floor_abs}
use Rattle.integers.proofs.Signed.{fits64, ok64, lt_z_true, abs_add, abs_neg}
use Rattle.amounts.specs.Ensures.{InSteps}
use Rattle.amounts.proofs.Steps.{up_above, up_below}
use Rattle.amounts.proofs.rounding.up.Goals as goal

module _ (z : ℤ) (n : ℕ) (pre : InSteps z n) where
  left_fits : SFits w64 (z -ℤ pos 1)
  left_fits = fits64 (z -ℤ pos 1) (omega (arith, abs_add z (neg_ℤ (pos 1)), pre.z_in))

  turned_fits : SFits w64 (pos 0 -ℤ z)
  turned_fits = fits64 (pos 0 -ℤ z) (omega (arith, abs_add (pos 0) (neg_ℤ z), abs_neg z, pre.z_in))

-- ---- above zero: the parts but the last, their full steps, and one more
module _ (c : goal.After-full) where
  full_is : c.full.result ≡ floor (c.args.z -ℤ pos 1) c.args.n
  full_is = simp (to_z-of_z, c.ranges.z, left_fits c.args.z c.args.n c.requires) at c.full.ensures

  next_fits : SFits w64 (c.full.result +ℤ pos 1)
  next_fits =
      let f = floor (c.args.z -ℤ pos 1) c.args.n in
      rw full_is
      (fits64 (f +ℤ pos 1)
      (omega (arith, abs_add f (pos 1), floor_abs (c.args.z -ℤ pos 1) c.args.n, abs_add c.args.z (neg_ℤ (pos 1)), c.requires.z_in)))

-- ---- else: the full steps, counted from zero
module _ (c : goal.After-full-2) where
  full2_is : c.full-2.result ≡ floor (pos 0 -ℤ c.args.z) c.args.n
  full2_is = simp (to_z-of_z, c.ranges.z, turned_fits c.args.z c.args.n c.requires) at c.full-2.ensures

  result_fits : SFits w64 (pos 0 -ℤ c.full-2.result)
  result_fits =
      let f = floor (pos 0 -ℤ c.args.z) c.args.n in
      rw full2_is
      (fits64 (pos 0 -ℤ f)
      (omega (arith, abs_add (pos 0) (neg_ℤ f), abs_neg f, floor_abs (pos 0 -ℤ c.args.z) c.args.n, abs_add (pos 0) (neg_ℤ c.args.z), abs_neg c.args.z, c.requires.z_in)))

pub overflow_sub-z : goal.overflow_sub-z
overflow_sub-z c = simp (to_z-of_z, c.ranges.z) (left_fits c.args.z c.args.n c.requires)

pub overflow_add-result : goal.overflow_add-result
overflow_add-result c = simp (to_z-of_z, ok64 c.full.result c.full.type_inv) (next_fits c)

pub returns-then-z-gt0 : goal.returns-then-z-gt0
returns-then-z-gt0 c =
    let h = simp (to_z-of_z, c.ranges.z) at c.if-z-gt0.true in
    simp (to_z-of_z, ok64 c.full.result c.full.type_inv, next_fits c)
    (ap (λ (x : ℤ). x +ℤ pos 1) (full_is c) ∙ up_above c.args.z c.args.n (lt_z_true (pos 0) c.args.z h))

pub overflow_sub-z-2 : goal.overflow_sub-z-2
overflow_sub-z-2 c = simp (to_z-of_z, c.ranges.z) (turned_fits c.args.z c.args.n c.requires)

pub overflow_sub-result : goal.overflow_sub-result
overflow_sub-result c = simp (to_z-of_z, ok64 c.full-2.result c.full-2.type_inv) (result_fits c)

pub returns : goal.returns
returns c =
    simp (to_z-of_z, ok64 c.full-2.result c.full-2.type_inv, result_fits c) (ap (λ (x : ℤ). pos 0 -ℤ x) (full2_is c) ∙ up_below c.args.z c.args.n)
