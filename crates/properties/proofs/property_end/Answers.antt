-- `properties::property_end` meets its contract: each way out by its law: cut off, good, bad.
use borrow.Author.Rules.{rules}
use Rattle.properties.proofs.PropertyLaws.{property_cut}
use Rattle.properties.proofs.property_end.Goals as goal

ruleset laws = (rules, property_cut)

pub returns-then-s-at-lt2 : goal.returns-then-s-at-lt2
returns-then-s-at-lt2 c = search laws
