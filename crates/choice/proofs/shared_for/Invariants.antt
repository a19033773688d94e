-- `choice::shared_for` meets its contract: what is shared, once the records that are left have gone by, holds what all of them leave, by the laws `block_..`.
use Prim.Native.Nat.{◌-◌}
use lib.ListN.{length}
use Rattle.choice.proofs.SharedLaws.{Blocking}
use Rattle.choice.proofs.shared_for.Given as goal

abbrev pub invariant-loop-at : goal.invariant-loop-at
invariant-loop-at l = Blocking l.w l.from l.asking.article.now l.asking.table.now l.asking.terms l.last.0 l.shared l.at

abbrev pub decreases-loop-at : goal.decreases-loop-at
decreases-loop-at l = length l.w - l.at
