-- `choice::slots_for` meets its contract: the slots, once they have seen the records that are left, hold what all of them leave, by the laws `walk_..`.
use Prim.Native.Nat.{◌-◌}
use lib.ListN.{length}
use Rattle.choice.proofs.WalkLaws.{Walking}
use Rattle.choice.proofs.slots_for.Given as goal

abbrev pub invariant-loop-at : goal.invariant-loop-at
invariant-loop-at l = Walking l.w l.from l.asking.article.now l.asking.table.now l.asking.terms l.slots l.at

abbrev pub decreases-loop-at : goal.decreases-loop-at
decreases-loop-at l = length l.w - l.at
