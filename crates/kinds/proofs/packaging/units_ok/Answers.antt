use borrow.Author.Rules.{rules}
use Rattle.kinds.proofs.PackagingLaws.{units_are}
use Rattle.kinds.proofs.packaging.units_ok.Goals as goal

ruleset laws = (rules, units_are)

pub returns : goal.returns
returns c = search laws
