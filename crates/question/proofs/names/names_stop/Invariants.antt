-- `question::names::names_stop` meets its contract: what is left to pass ends where the whole ends, by the laws `pass_..`.
use Prim.Native.Nat.{◌-◌}
use Rattle.rules.specs.Question.{granted_in}
use Rattle.layout.specs.Counted.{Passing}
use Rattle.question.specs.Parts.{granted_at, granted_stop, names_stop}
use Rattle.question.proofs.names.names_stop.Given as goal

abbrev pub invariant-loop : goal.invariant-loop
invariant-loop l = Passing (granted_in l.version) (granted_at l.version) (granted_stop l.version) l.s l.end (l.n - l.counter) (names_stop l.version l.s l.at l.n)
