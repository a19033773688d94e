-- `amounts::add_line` meets its contract: the sum fits, and the test on it is the definition's.
use native.Mathlib.Omega.{arith}
use lib.IntN.{ℤ, ◌+ℤ◌}
use mir.Syntax.{w64}
use mir.Val.{SFits}
use mir.ValLaws.{to_z-of_z}
use Rattle.integers.proofs.Signed.{fits64, abs_add}
use Rattle.amounts.specs.Ensures.{Addable}
use Rattle.amounts.proofs.TotalLaws.{after_in, after_out}
use Rattle.amounts.proofs.add_line.Goals as goal

module _ (total amount : ℤ) (pre : Addable total amount) where
  total_fits : SFits w64 total
  total_fits = fits64 total (omega (arith, pre.total_in))

  amount_fits : SFits w64 amount
  amount_fits = fits64 amount (omega (arith, pre.amount_in))

  sum_fits : SFits w64 (total +ℤ amount)
  sum_fits = fits64 (total +ℤ amount) (omega (arith, abs_add total amount, pre.total_in, pre.amount_in))

pub overflow_add-after : goal.overflow_add-after
overflow_add-after c =
    let t = c.args.total.0 in
    let a = c.args.amount.0 in
    simp (to_z-of_z, total_fits t a c.requires, amount_fits t a c.requires) (sum_fits t a c.requires)

pub returns-then-after : goal.returns-then-after
returns-then-after c =
    let t = c.args.total.0 in
    let a = c.args.amount.0 in
    simp (to_z-of_z, total_fits t a c.requires, amount_fits t a c.requires, sum_fits t a c.requires)
    (after_in t a (simp (to_z-of_z, total_fits t a c.requires, amount_fits t a c.requires, sum_fits t a c.requires) at c.if-after.true))

pub returns-else-after : goal.returns-else-after
returns-else-after c =
    let t = c.args.total.0 in
    let a = c.args.amount.0 in
    after_out t a (simp (to_z-of_z, total_fits t a c.requires, amount_fits t a c.requires, sum_fits t a c.requires) at c.if-after.false)
