-- `stretches::walk::stretches_of` meets its contract: the stretches closed, the one in hand and the days to come make up the whole, by
-- the laws `by_..`.
use Rattle.stretches.specs.Stretches.{GoingBy}
use Rattle.stretches.proofs.walk.stretches_of.Given as goal

abbrev pub invariant-loop-i : goal.invariant-loop-i
invariant-loop-i l = GoingBy l.dates l.marks l.outcomes l.list l.n l.i
