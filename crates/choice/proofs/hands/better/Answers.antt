-- `choice::hands::better` meets its contract: by the law `better_is`.
use borrow.Author.Rules.{rules}
use Rattle.choice.proofs.HandLaws.{better_is}
use Rattle.choice.proofs.hands.better.Goals as goal

ruleset laws = (rules, better_is)

pub returns : goal.returns
returns c = search laws
