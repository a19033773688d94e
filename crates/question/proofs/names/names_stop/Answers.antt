-- `question::names::names_stop` meets its contract: what is left to pass ends where the whole ends, by the laws `pass_..`.
use native.Mathlib.Omega.{arith}
use Rattle.layout.proofs.CountedLaws.{pass_here, pass_next, pass_end}
use Rattle.question.proofs.names.names_stop.Goals as goal

pub next_name-end-requires : goal.next_name-end-requires
next_name-end-requires c = pass_here c.loop.invariant (omega arith)

pub loop-preserved : goal.loop-preserved
loop-preserved c = pass_next c.loop.invariant c.loop-test.true c.next_name-end.ensures.is

pub returns : goal.returns
returns c = record { is = pass_end c.loop.invariant (omega arith) }
