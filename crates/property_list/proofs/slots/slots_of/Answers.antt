-- `property_list::slots::slots_of` meets its contract: property after property, by the laws `fill_..`.
use borrow.Author.Rules.{rules}
use Rattle.property_list.proofs.SlotLaws.{fill_start, fill_here, fill_again}
use Rattle.property_list.proofs.slots.slots_of.Goals as goal

ruleset laws = (rules, fill_start, fill_here, fill_again)

pub loop-at-init : goal.loop-at-init
loop-at-init c = search laws

pub kind_position-kind-requires : goal.kind_position-kind-requires
kind_position-kind-requires c = search laws

pub loop-at-preserved : goal.loop-at-preserved
loop-at-preserved c = search laws
