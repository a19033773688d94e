use borrow.Author.Rules.{rules}
use Rattle.kinds.proofs.FieldLaws.{trim_is}
use Rattle.kinds.proofs.bodies.trim_ok.Goals as goal

ruleset laws = (rules, trim_is)

pub returns : goal.returns
returns c = search laws
