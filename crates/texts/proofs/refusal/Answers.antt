-- `texts::refusal` meets its contract: it is what is shown of a refusal.
use borrow.Author.Rules.{rules}
use Rattle.texts.proofs.TextLaws.{refusal_is}
use Rattle.texts.proofs.refusal.Goals as goal

ruleset laws = (rules, refusal_is)

pub returns : goal.returns
returns c = rw c.into.ensures (refusal_is _)
