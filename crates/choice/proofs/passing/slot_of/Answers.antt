-- `choice::passing::slot_of` meets its contract: by the law `slot_is`.
use borrow.Author.Rules.{rules}
use Rattle.choice.proofs.PassingLaws.{slot_is}
use Rattle.choice.proofs.passing.slot_of.Goals as goal

ruleset laws = (rules, slot_is)

pub returns : goal.returns
returns c = search laws
