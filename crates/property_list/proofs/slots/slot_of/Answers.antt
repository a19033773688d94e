-- `property_list::slots::slot_of` meets its contract: an empty name, and any other by its length and two of its bytes.
use borrow.Author.Rules.{rules}
use Rattle.property_list.proofs.SlotLaws.{slot_none, slot_some}
use Rattle.property_list.proofs.slots.slot_of.Goals as goal

ruleset laws = (rules, slot_none, slot_some)

pub returns-then-size-lt1 : goal.returns-then-size-lt1
returns-then-size-lt1 c = search laws

pub returns : goal.returns
returns c = search laws
