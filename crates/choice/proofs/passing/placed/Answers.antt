-- `choice::passing::placed` meets its contract: by the law `placed_is`.
use borrow.Author.Rules.{rules}
use Rattle.choice.proofs.PassingLaws.{placed_is}
use Rattle.choice.proofs.passing.placed.Goals as goal

ruleset laws = (rules, placed_is)

pub returns : goal.returns
returns c = search laws
