-- `basket::question_lines::put_all_lines` meets its contract: the lines of question after question, by the laws `lines_..`.
use Rattle.basket.proofs.LineLaws.{Listing}
use Rattle.basket.proofs.question_lines.put_all_lines.Given as goal

abbrev pub invariant-loop-j : goal.invariant-loop-j
invariant-loop-j l = Listing l.basket.book.now l.basket.questions.now l.basket.stretches.now l.basket.found.now l.initial.out l.at l.out l.end l.j
