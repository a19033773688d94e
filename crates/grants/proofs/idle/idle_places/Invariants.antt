-- `grants::idle::idle_places` meets its contract: the set and the grants that are left make up the whole, by the laws `idle_..`.
use Rattle.grants.proofs.IdleLaws.{Idling}
use Rattle.grants.proofs.idle.idle_places.Given as goal

abbrev pub invariant-loop-passed : goal.invariant-loop-passed
invariant-loop-passed l = Idling l.g l.brought l.set.0 l.passed
