-- `question::names::name_stop` meets its contract: the name stands there, so its length byte says where it ends.
use borrow.Author.Rules.{rules}
use Rattle.question.proofs.PartLaws.{granted_stop_lem}
use Rattle.question.proofs.names.name_stop.Goals as goal

ruleset laws = (rules, granted_stop_lem)

pub returns : goal.returns
returns c = search laws
