use mir.ValLaws.{to_z-of_z}
use Rattle.integers.proofs.Signed.{ok64}
use Rattle.amounts.proofs.rounding.full.Goals as goal

pub returns : goal.returns
returns c =
    simp (to_z-of_z, ok64 c.floor_div.result c.floor_div.type_inv) (simp (to_z-of_z, c.ranges.parts) at c.floor_div.ensures)
