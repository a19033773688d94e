-- `basket::answers::answers_to` meets its contract: answer behind answer, by the laws `answers_..`.
use Rattle.basket.proofs.AnswerLaws.{Answering}
use Rattle.basket.proofs.answers.answers_to.Given as goal

abbrev pub invariant-loop-j : goal.invariant-loop-j
invariant-loop-j l =
    Answering l.basket.book.now l.basket.questions.now l.basket.stretches.now l.basket.found.now l.initial.kept l.kept l.bytes l.lines l.end l.j
