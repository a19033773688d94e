-- `printing::decimal::put_signed` meets its contract: a sign, and behind it the digits (`signed_prints`).
use mir.ValLaws.{to_z-of_z}
use Rattle.printing.proofs.DigitLaws.{signed_room, signed_prints}
use Rattle.printing.proofs.decimal.put_signed.Goals as goal

pub put_digits-requires : goal.put_digits-requires
put_digits-requires c =
    signed_room c.args.z c.requires (simp (to_z-of_z, c.ranges.z) at c.put_sign-start.ensures)

pub returns : goal.returns
returns c =
    signed_prints c.args.z c.requires (simp (to_z-of_z, c.ranges.z) at c.put_sign-start.ensures) (simp (to_z-of_z, c.ranges.z) at c.unsigned_abs.ensures.value) c.put_digits.ensures
