-- `grants::is_entry` meets its contract: the lengths differ, or the bytes decide, by the laws `entry_..`.
use borrow.Author.Rules.{rules}
use Rattle.grants.proofs.EntryLaws.{entry_other, entry_same}
use Rattle.grants.proofs.is_entry.Goals as goal

ruleset laws = (rules, entry_other, entry_same)

pub returns-then-wide-name : goal.returns-then-wide-name
returns-then-wide-name c = search laws

pub returns : goal.returns
returns c = search laws
