-- `question::terms_ok` meets its contract: its tests are those of the four fields, by `terms_is`.
use borrow.Author.Rules.{rules}
use Rattle.question.proofs.PartLaws.{terms_is}
use Rattle.question.proofs.terms_ok.Goals as goal

ruleset laws = (rules, terms_is)

pub returns : goal.returns
returns c = search laws
