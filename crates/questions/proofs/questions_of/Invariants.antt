-- `questions::questions_of` meets its contract: question after question, by the laws `reading_..`.
use Prim.Native.Nat.{◌-◌}
use lib.ListN.{length}
use Rattle.questions.proofs.ReadLaws.{Reading}
use Rattle.questions.proofs.questions_of.Given as goal

abbrev pub invariant-loop-at : goal.invariant-loop-at
invariant-loop-at l = Reading l.s l.most l.stretches l.count l.at

abbrev pub decreases-loop-at : goal.decreases-loop-at
decreases-loop-at l = length l.s - l.at
