-- `grants::look` meets its contract: the entries that are left hold the place, by the laws `look_..`.
use borrow.Author.Rules.{rules}
use Rattle.grants.proofs.EntryLaws.{look_found, look_again, look_end}
use Rattle.grants.proofs.look.Goals as goal

ruleset laws = (rules, look_found, look_again, look_end)

pub returns-then-is_entry-clause-is : goal.returns-then-is_entry-clause-is
returns-then-is_entry-clause-is c = search laws

pub loop-i-preserved : goal.loop-i-preserved
loop-i-preserved c = search laws

pub returns-clause-is : goal.returns-clause-is
returns-clause-is c = search laws
