-- `period::period_to` meets its contract: day after day, by the laws `count_..`.
use Rattle.period.specs.Ensures.{Counting}
use Rattle.period.proofs.period_to.Given as goal

abbrev pub invariant-loop-n : goal.invariant-loop-n
invariant-loop-n l = Counting l.initial.d.0 l.end l.dates l.d.0 l.n
