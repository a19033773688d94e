use borrow.Author.Rules.{rules}
use Rattle.book.proofs.BookLaws.{book_not, book_start, walk_end, walk_bad, walk_again}
use Rattle.book.proofs.book_ok.Goals as goal

ruleset laws = (rules, book_not, book_start, walk_end)

pub returns-then-not-book_head_ok : goal.returns-then-not-book_head_ok
returns-then-not-book_head_ok c = search laws

pub loop-at-init : goal.loop-at-init
loop-at-init c = search laws

pub returns-in_default : goal.returns-in_default
returns-in_default c = walk_bad c.loop-at.invariant c.loop-at-test.true c.in_default.ensures (search rules)

pub loop-at-preserved : goal.loop-at-preserved
loop-at-preserved c = walk_again c.loop-at.invariant c.loop-at-test.true c.in-Some.ensures.0 c.in-Some.ensures.1

pub returns : goal.returns
returns c = search laws
