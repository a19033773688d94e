-- `lookup::named::first_named` meets its contract: none of the records passed is one, by the laws `seek_..`.
use Prim.Native.Nat.{◌-◌}
use lib.ListN.{length}
use Rattle.lookup.specs.Ensures.{Seeking}
use Rattle.lookup.proofs.named.first_named.Given as goal

abbrev pub invariant-loop-at : goal.invariant-loop-at
invariant-loop-at l = Seeking l.b l.kind l.name l.at

abbrev pub decreases-loop-at : goal.decreases-loop-at
decreases-loop-at l = length l.b - l.at
