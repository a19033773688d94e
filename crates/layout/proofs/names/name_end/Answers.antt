-- `layout::names::name_end` meets its contract: each way out by its law: cut off, good, bad.
use borrow.Author.Rules.{rules}
use Rattle.layout.proofs.NameLaws.{name_cut, name_good, name_bad}
use Rattle.layout.proofs.names.name_end.Goals as goal

ruleset laws = (rules, name_cut, name_good, name_bad)

pub returns-then-s-from : goal.returns-then-s-from
returns-then-s-from c = search laws

pub returns-then-lo-n : goal.returns-then-lo-n
returns-then-lo-n c = search laws

pub returns-else-lo-n : goal.returns-else-lo-n
returns-else-lo-n c = search laws
