-- `wanted::walk` meets its contract: the entry of each article holds what was seen of it so far, by the laws `walking_..`.
use Prim.Native.Nat.{◌-◌}
use lib.ListN.{length}
use Rattle.wanted.proofs.WalkLaws.{Walking}
use Rattle.wanted.proofs.walk.Given as goal

abbrev pub invariant-loop-at : goal.invariant-loop-at
invariant-loop-at l = Walking l.b l.table.bytes.now l.table.names.now (length l.table.names.now) l.entries l.roundings l.noted l.last l.at

abbrev pub decreases-loop-at : goal.decreases-loop-at
decreases-loop-at l = length l.b - l.at
