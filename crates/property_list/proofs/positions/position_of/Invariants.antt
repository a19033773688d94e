-- `property_list::positions::position_of` meets its contract: the first of the name is the first from here on, by the laws `look_..`.
use Prim.Native.Nat.{◌-◌}
use lib.ListN.{length}
use Rattle.property_list.specs.Slots.{LooksFrom}
use Rattle.property_list.proofs.positions.position_of.Given as goal

abbrev pub invariant-loop-at : goal.invariant-loop-at
invariant-loop-at l = LooksFrom l.p l.name l.at

abbrev pub decreases-loop-at : goal.decreases-loop-at
decreases-loop-at l = length l.p - l.at
