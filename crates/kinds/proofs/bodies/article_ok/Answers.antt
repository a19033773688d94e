use borrow.Author.Rules.{rules}
use Rattle.kinds.proofs.KindLaws.{article_all}
use Rattle.kinds.proofs.bodies.article_ok.Goals as goal

ruleset laws = (rules, article_all)

pub returns : goal.returns
returns c = search laws
