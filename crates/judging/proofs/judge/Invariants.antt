-- `judging::judge` meets its contract: from each line on, what is left of the room decides.
use Prim.Native.Nat.{◌-◌}
use lib.ListN.{length}
use Rattle.judging.specs.Judge.{Judging}
use Rattle.judging.proofs.judge.Given as goal

abbrev pub invariant-loop-at : goal.invariant-loop-at
invariant-loop-at l = Judging l.file l.room l.at l.n l.left

abbrev pub decreases-loop-at : goal.decreases-loop-at
decreases-loop-at l = length l.file - l.at
