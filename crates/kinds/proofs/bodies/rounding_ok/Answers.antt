use borrow.Author.Rules.{rules}
use Rattle.kinds.proofs.KindLaws.{rounding_no, rounding_is}
use Rattle.kinds.proofs.bodies.rounding_ok.Goals as goal

ruleset laws = (rules, rounding_no, rounding_is)

pub returns-then-s-at-ne15 : goal.returns-then-s-at-ne15
returns-then-s-at-ne15 c = search laws

pub returns : goal.returns
returns c = search laws
