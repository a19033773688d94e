-- `outcomes::outcomes_of` meets its contract: the days that have gone by and are due have their outcomes, by the laws `price_..`.
use Prim.Native.Nat.{◌-◌}
use lib.ListN.{length}
use Rattle.outcomes.specs.Outcomes.{Pricing}
use Rattle.outcomes.proofs.outcomes_of.Given as goal

abbrev pub invariant-loop-i : goal.invariant-loop-i
invariant-loop-i l = Pricing l.b l.w l.asking.article.now l.asking.table.now l.asking.terms l.dates l.marks l.block l.outcomes l.i

abbrev pub decreases-loop-i : goal.decreases-loop-i
decreases-loop-i l = length l.dates - l.i
