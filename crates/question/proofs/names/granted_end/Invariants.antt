-- `question::names::granted_end` meets its contract: the names that are left decide about all of them, by the laws `count_..`.
use Prim.Native.Nat.{◌-◌}
use Rattle.rules.specs.Question.{granted_in}
use Rattle.layout.specs.Counted.{Left}
use Rattle.question.specs.Parts.{granted_at, granted_stop}
use Rattle.question.proofs.names.granted_end.Given as goal

abbrev pub invariant-loop : goal.invariant-loop
invariant-loop l = Left (granted_in l.version) (granted_at l.version) (granted_stop l.version) l.s l.at l.end (l.n - l.counter)
