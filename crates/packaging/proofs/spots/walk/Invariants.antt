-- `packaging::spots::walk` meets its contract: with the records left, the spot of each place will have the first of all, by the laws `walk_..`.
use Prim.Native.Nat.{◌-◌}
use lib.ListN.{length}
use Rattle.packaging.proofs.WalkLaws.{Walking}
use Rattle.packaging.proofs.spots.walk.Given as goal

abbrev pub invariant-loop-at : goal.invariant-loop-at
invariant-loop-at l = Walking l.b l.article l.table l.names l.own l.any l.known l.at

abbrev pub decreases-loop-at : goal.decreases-loop-at
decreases-loop-at l = length l.b - l.at
