-- `period::marks::marks_of` meets its contract: the marks made, with the records that are left, are the days of change, by the laws `mark_..`.
use Prim.Native.Nat.{◌-◌}
use lib.ListN.{length}
use Rattle.period.specs.Marks.{Marking}
use Rattle.period.proofs.marks.marks_of.Given as goal

abbrev pub invariant-loop-at : goal.invariant-loop-at
invariant-loop-at l = Marking l.w l.from l.article l.sort l.dates l.marks l.at

abbrev pub decreases-loop-at : goal.decreases-loop-at
decreases-loop-at l = length l.w - l.at
