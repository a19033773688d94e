-- `lookup::roundings::next_open` meets its contract: no record passed is looked for, by the laws `next_..`.
use Prim.Native.Nat.{◌-◌}
use lib.ListN.{length}
use Rattle.lookup.proofs.LookupLaws.{Passing}
use Rattle.lookup.proofs.roundings.next_open.Given as goal

abbrev pub invariant-loop-at : goal.invariant-loop-at
invariant-loop-at l = Passing l.b l.from l.low l.at

abbrev pub decreases-loop-at : goal.decreases-loop-at
decreases-loop-at l = length l.b - l.at
