-- `questions::names_in` meets its contract: question after question.
use Rattle.questions.proofs.NameLaws.{Naming}
use Rattle.questions.proofs.names_in.Given as goal

abbrev pub invariant-loop-j : goal.invariant-loop-j
invariant-loop-j l = Naming l.s l.stretches l.names l.j
