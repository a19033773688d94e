use borrow.Author.Rules.{rules}
use Rattle.kinds.proofs.KindLaws.{price_size, price_is}
use Rattle.kinds.proofs.bodies.price_ok.Goals as goal

ruleset laws = (rules, price_size, price_is)

pub returns-then-s-terms-ne29 : goal.returns-then-s-terms-ne29
returns-then-s-terms-ne29 c = search laws

pub returns : goal.returns
returns c = search laws
