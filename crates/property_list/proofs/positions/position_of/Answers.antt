-- `property_list::positions::position_of` meets its contract: the first of the name is the first from here on, by the laws `look_..`.
use borrow.Author.Rules.{rules}
use Rattle.property_list.proofs.PositionLaws.{stop_less, look_here, look_found, look_again, look_end}
use Rattle.property_list.proofs.SlotLaws.{look_slot}
use Rattle.property_list.proofs.positions.position_of.Goals as goal

ruleset laws = (rules, stop_less, look_slot, look_here, look_found, look_again, look_end)

pub kind_position-kind-requires : goal.kind_position-kind-requires
kind_position-kind-requires c = search laws

pub returns-then-same_raised : goal.returns-then-same_raised
returns-then-same_raised c = search laws

pub loop-at-preserved : goal.loop-at-preserved
loop-at-preserved c = search laws

pub returns : goal.returns
returns c = search laws
