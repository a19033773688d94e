-- An amount by its factor: that the numbers fit, and that a thousand thousandths may be left out.
use Prim.Native.Nat.{ℕ, ◌*◌, ◌≤◌}
use mathlib.Core.Path.{◌≡◌, refl, sym, ◌∙◌, ap}
use native.Mathlib.Nat.{mul-le-mul}
use native.Mathlib.Omega.{arith}
use lib.IntN.{pos, nat_abs, ◌*ℤ◌}
use mir.Syntax.{w64}
use mir.Val.{SFits, to_z}
use mir.ValLaws.{to_z_pos}
use Rattle.integers.proofs.Signed.{fits64, abs_mul}
use Rattle.rules.specs.Amounts.{factored, rounded}
use Rattle.rules.specs.declared.Fraction.{Fraction}
use Rattle.rules.proofs.FactorLaws.{once_rounded}
use Rattle.amounts.specs.Ensures.{Factorable, FactoredAmount}

module _ (factor : ℕ) (x : Fraction) (ok : Factorable factor x) where
  pub plain_is : factor ≡ 1000 → FactoredAmount factor x x
  plain_is e = record {
    rounds = λ r. sym (ap (λ (f : ℕ). rounded r (factored f x)) e ∙ once_rounded r x);
    top_in = omega (arith, ok.top_in);
    low = ok.low;
    high = omega (arith, ok.high);
  }

  product_in : nat_abs (x.top *ℤ pos factor) ≤ 1_000_000_000_000_000_000
  product_in = omega (arith, abs_mul x.top (pos factor), mul-le-mul ok.top_in ok.factor_in)

  pub product_fits : SFits w64 (x.top *ℤ pos factor)
  product_fits = fits64 (x.top *ℤ pos factor) (omega (arith, product_in))

  pub top_fits : SFits w64 x.top
  top_fits = fits64 x.top (omega (arith, ok.top_in))

  pub factor_is : to_z w64 factor ≡ pos factor
  factor_is = to_z_pos w64 factor (omega (arith, ok.factor_in))

  pub product_is : FactoredAmount factor x (record { top = x.top *ℤ pos factor; bottom = x.bottom * 1000 })
  product_is = record { rounds = λ r. refl; top_in = product_in; low = omega (arith, ok.low); high = omega (arith, ok.high) }
