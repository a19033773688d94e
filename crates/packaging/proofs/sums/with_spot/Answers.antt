-- `packaging::sums::with_spot` meets its contract: by the laws `held_kind`, `spot_added` and `spot_empty`.
use Rattle.packed.proofs.SumLaws.{room_left}
use Rattle.packaging.proofs.SumLaws.{held_kind, spot_added, spot_empty}
use Rattle.packaging.proofs.sums.with_spot.Goals as goal

pub packaging_of-requires : goal.packaging_of-requires
packaging_of-requires c = held_kind c.bytes_of.ensures (rw c.in-Some.is at c.requires.held)

pub add_fitting-requires : goal.add_fitting-requires
add_fitting-requires c = room_left c.requires.within c.packaging_of.ensures

pub returns-in-Some : goal.returns-in-Some
returns-in-Some c = rw c.in-Some.is (spot_added c.bytes_of.ensures c.packaging_of.ensures c.add_fitting.ensures)

pub returns-in-None : goal.returns-in-None
returns-in-None c = rw c.in-None.is (spot_empty c.args.b.now c.args.s)
