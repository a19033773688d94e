-- `choice::hands::limit` meets its contract: no limit and a limit, by the laws `limit_..`.
use borrow.Author.Rules.{rules}
use Rattle.choice.proofs.HandLaws.{limit_none, limit_some}
use Rattle.choice.proofs.hands.limit.Goals as goal

ruleset laws = (rules, limit_none, limit_some)

pub returns-then-upto-eq0 : goal.returns-then-upto-eq0
returns-then-upto-eq0 c = search laws

pub returns-else-upto-eq0 : goal.returns-else-upto-eq0
returns-else-upto-eq0 c = search laws
