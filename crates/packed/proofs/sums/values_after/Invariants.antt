-- `packed::sums::values_after` meets its contract: each sum fits, and the sums below i are there, by the laws `sum_..`.
use Rattle.packed.proofs.ValueLaws.{Summing}
use Rattle.packed.proofs.sums.values_after.Given as goal

abbrev pub invariant-loop-i : goal.invariant-loop-i
invariant-loop-i l = Summing l.held l.new l.sum-items l.i
