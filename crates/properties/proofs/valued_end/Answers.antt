-- `properties::valued_end` meets its contract: each way out by its law: nothing there, cut off, good, bad.
use borrow.Author.Rules.{rules}
use Rattle.properties.proofs.PropertyLaws.{value_cut, value_good, value_bad}
use Rattle.properties.proofs.valued_end.Goals as goal

ruleset laws = (rules, value_cut, value_good, value_bad)

pub returns-then-s-from : goal.returns-then-s-from
returns-then-s-from c = search laws

pub returns-then-n-width : goal.returns-then-n-width
returns-then-n-width c = search laws

pub returns-else-n-width : goal.returns-else-n-width
returns-else-n-width c = search laws
