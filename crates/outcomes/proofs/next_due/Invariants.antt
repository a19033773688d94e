-- `outcomes::next_due` meets its contract: none that has gone by is marked, by the laws `seek_..`.
use Rattle.outcomes.proofs.OutcomeLaws.{Seeking}
use Rattle.outcomes.proofs.next_due.Given as goal

abbrev pub invariant-loop-k : goal.invariant-loop-k
invariant-loop-k l = Seeking l.marks l.i l.k
