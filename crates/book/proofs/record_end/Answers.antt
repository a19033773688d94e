use borrow.Author.Rules.{rules}
use Rattle.book.proofs.BookLaws.{record_short, record_cut, record_good, record_bad}
use Rattle.book.proofs.record_end.Goals as goal

ruleset laws = (rules, record_short, record_cut, record_good, record_bad)

pub returns-then-b-at-lt2 : goal.returns-then-b-at-lt2
returns-then-b-at-lt2 c = search laws

pub returns-then-b-from : goal.returns-then-b-from
returns-then-b-from c = search laws

pub returns-then-record_ok : goal.returns-then-record_ok
returns-then-record_ok c = search laws

pub returns-else-record_ok : goal.returns-else-record_ok
returns-else-record_ok c = search laws
