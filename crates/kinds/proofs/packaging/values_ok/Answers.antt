use borrow.Author.Rules.{rules}
use Rattle.kinds.proofs.PackagingLaws.{values_are}
use Rattle.kinds.proofs.packaging.values_ok.Goals as goal

ruleset laws = (rules, values_are)

pub returns : goal.returns
returns c = search laws
