use borrow.Author.Rules.{rules}
use Rattle.kinds.proofs.PackagingLaws.{packaging_size, packaging_all}
use Rattle.kinds.proofs.packaging.packaging_ok.Goals as goal

ruleset laws = (rules, packaging_size, packaging_all)

pub returns-then-s-presence-ne42 : goal.returns-then-s-presence-ne42
returns-then-s-presence-ne42 c = search laws

pub returns : goal.returns
returns c = search laws
