-- `relations::starts::start_of` meets its contract: up to where it stands there are NOTs.
use Prim.Native.Nat.{◌-◌}
use lib.ListN.{length}
use Rattle.relations.specs.Starts.{NotsOver}
use Rattle.relations.proofs.starts.start_of.Given as goal

abbrev pub invariant-loop-at : goal.invariant-loop-at
invariant-loop-at l = NotsOver l.text l.at l.behind l.turned

abbrev pub decreases-loop-at : goal.decreases-loop-at
decreases-loop-at l = length l.text - l.behind
