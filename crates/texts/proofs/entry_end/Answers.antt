-- `texts::entry_end` meets its contract: each way out by its law: too short for a head, cut in its text, whole.
use borrow.Author.Rules.{rules}
use Rattle.texts.proofs.EntryLaws.{entry_short, entry_cut, entry_good}
use Rattle.texts.proofs.entry_end.Goals as goal

ruleset laws = (rules, entry_short, entry_cut, entry_good)

pub returns-then-s-at-lt6 : goal.returns-then-s-at-lt6
returns-then-s-at-lt6 c = search laws

pub returns-then-end-s : goal.returns-then-end-s
returns-then-end-s c = search laws

pub returns-else-end-s : goal.returns-else-end-s
returns-else-end-s c = search laws
