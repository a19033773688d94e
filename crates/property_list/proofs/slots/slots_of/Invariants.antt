-- `property_list::slots::slots_of` meets its contract: property after property, by the laws `fill_..`.
use Prim.Native.Nat.{◌-◌}
use lib.ListN.{length}
use Rattle.property_list.proofs.SlotLaws.{Filling}
use Rattle.property_list.proofs.slots.slots_of.Given as goal

abbrev pub invariant-loop-at : goal.invariant-loop-at
invariant-loop-at l = Filling l.p l.slots l.at

abbrev pub decreases-loop-at : goal.decreases-loop-at
decreases-loop-at l = length l.p - l.at
