-- `fields::content::same_text` meets its contract.
use borrow.Author.Rules.{rules}
use Rattle.fields.proofs.SameLaws.{same_not}
use Rattle.fields.proofs.content.same_text.Goals as goal

ruleset laws = (rules, same_not)

pub same_from-requires : goal.same_from-requires
same_from-requires c = search laws

pub returns-then-f-g : goal.returns-then-f-g
returns-then-f-g c = search laws

pub returns : goal.returns
returns c = search laws
