-- `basket::priced` meets its contract: 1 by `no_book`, 2 by `no_questions`, the rest by `filled`.
use mathlib.Core.Path.{sym, ◌∙◌}
use Rattle.basket.proofs.CallLaws.{no_book, no_questions, all_here, all_basketed}
use Rattle.basket.proofs.priced.Goals as goal

pub returns-then-is_book : goal.returns-then-is_book
returns-then-is_book c = no_questions _ _ _ c.is_book.ensures c.if-is_book.true (rw c.in_default.is at c.questions_of-read.ensures)

pub returns-in_default : goal.returns-in_default
returns-in_default c = no_book _ _ _ (sym c.is_book.ensures ∙ c.if-is_book.false)

pub locate-there-requires : goal.locate-there-requires
locate-there-requires c = all_here (rw c.in-Some.is at c.questions_of-read.ensures)

pub returns-in_default-there : goal.returns-in_default-there
returns-in_default-there c = let n = rw c.in_default-there.is at c.locate-there.ensures in no_book _ _ _ n.is

pub filled-requires : goal.filled-requires
filled-requires c = all_basketed (rw c.in-Some.is at c.questions_of-read.ensures) (rw c.in-Some-there.is at c.locate-there.ensures)
