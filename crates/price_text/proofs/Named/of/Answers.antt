-- `price_text::Named::of` meets its contract.
use borrow.Author.Rules.{rules}
use Rattle.price_text.proofs.LineLaws.{first_stands, second_stands, priced}
use Rattle.records.proofs.FieldLaws.{accepted_long}
use Rattle.price_text.proofs.Named.of.Goals as goal

ruleset laws = (rules, first_stands, second_stands, priced, accepted_long)

pub bounds-t-1 : goal.bounds-t-1
bounds-t-1 c = search laws

pub bounds-t-article : goal.bounds-t-article
bounds-t-article c = search laws

pub invariant_of-result : goal.invariant_of-result
invariant_of-result c = search laws
