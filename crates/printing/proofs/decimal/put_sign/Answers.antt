-- `printing::decimal::put_sign` meets its contract: none from 0 up, one below.
use lib.IntN.{pos}
use mir.ValLaws.{to_z-of_z}
use Rattle.integers.proofs.Signed.{le_z_true, le_z_false}
use Rattle.printing.proofs.DigitLaws.{no_sign, one_sign}
use Rattle.printing.proofs.decimal.put_sign.Goals as goal

pub returns-then-z-ge0 : goal.returns-then-z-ge0
returns-then-z-ge0 c =
    no_sign _ _ c.args.z c.requires (le_z_true (pos 0) c.args.z (simp (to_z-of_z, c.ranges.z) at c.if-z-ge0.true))

pub returns : goal.returns
returns c =
    one_sign _ _ c.args.z c.requires (le_z_false (pos 0) c.args.z (simp (to_z-of_z, c.ranges.z) at c.if-z-ge0.false))
