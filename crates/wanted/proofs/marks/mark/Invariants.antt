-- `wanted::marks::mark` meets its contract: the mark so far and what is left are the whole, by the laws `marking_..`.
use Rattle.wanted.proofs.MarkLaws.{Marking}
use Rattle.wanted.proofs.marks.mark.Given as goal

abbrev pub invariant-loop-b : goal.invariant-loop-b
invariant-loop-b l = Marking l.name l.m l.b-index
