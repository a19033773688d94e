use borrow.Author.Rules.{rules}
use Rattle.kinds.proofs.KindLaws.{scheme_size, scheme_all}
use Rattle.kinds.proofs.bodies.scheme_ok.Goals as goal

ruleset laws = (rules, scheme_size, scheme_all)

pub returns-then-s-choices-ne4 : goal.returns-then-s-choices-ne4
returns-then-s-choices-ne4 c = let r = c.in-Some.ensures {u = tt} in search laws

pub returns : goal.returns
returns c = let r = c.in-Some.ensures {u = tt} in search laws
