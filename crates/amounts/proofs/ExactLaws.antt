-- The exact amount of a value, by its two kinds, and that the numbers on the way fit.
use Prim.Native.Nat.{◌≤◌}
use mathlib.Core.Path.{◌≡◌}
use native.Mathlib.Nat.{mul-le-mul}
use native.Mathlib.Omega.{arith}
use lib.IntN.{ℤ, nat_abs, ◌*ℤ◌}
use mir.Syntax.{w64}
use mir.Val.{SFits}
use Rattle.integers.proofs.Signed.{fits64, abs_mul}
use Rattle.rules.specs.Amounts.{exact}
use Rattle.rules.specs.declared.Cents.{Cents}
use Rattle.rules.specs.declared.Hundredths.{Hundredths}
use Rattle.rules.specs.declared.Value.{Value}
use Rattle.rules.specs.declared.Value.TheVariants.{Fixed, Percent}
use Rattle.amounts.specs.Ensures.{BookValue, ExactAmount}
use Rattle.rules.proofs.RangeLaws.{either_in}

module _ (value : Value) (of : ℤ) (known : BookValue value of) where
  pub of_fits : SFits w64 of
  of_fits = fits64 of (omega arith)

  module _ (c : Cents) (is : value ≡ Fixed c) where
    fixed_in : nat_abs c.0 ≤ 100_000_000
    fixed_in = either_in 100_000_000 c.0 (rw is at known.value_in)

    pub fixed_fits : SFits w64 c.0
    fixed_fits = fits64 c.0 (omega (arith, fixed_in))

    pub fixed_is : ExactAmount value of (record { top = c.0; bottom = 1 })
    unfolding exact
    fixed_is = record { is = rw is; top_in = omega (arith, fixed_in); low = omega arith; high = omega arith }

  module _ (h : Hundredths) (is : value ≡ Percent h) where
    share_in : nat_abs h.0 ≤ 100_000
    share_in = either_in 100_000 h.0 (rw is at known.value_in)

    pub share_fits : SFits w64 h.0
    share_fits = fits64 h.0 (omega (arith, share_in))

    product_in : nat_abs (h.0 *ℤ of) ≤ 100_000_000_000_000
    product_in = omega (arith, abs_mul h.0 of, mul-le-mul share_in known.of_in)

    pub product_fits : SFits w64 (h.0 *ℤ of)
    product_fits = fits64 (h.0 *ℤ of) (omega (arith, product_in))

    pub share_is : ExactAmount value of (record { top = h.0 *ℤ of; bottom = 10_000 })
    unfolding exact
    share_is = record { is = rw is; top_in = product_in; low = omega arith; high = omega arith }
