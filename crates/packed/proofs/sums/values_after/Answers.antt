-- `packed::sums::values_after` meets its contract: each sum fits, and the sums below i are there, by the laws `sum_..`.
use borrow.Author.Rules.{rules}
use Rattle.packed.proofs.ValueLaws.{sum_start, sum_fits, sum_again, sum_end}
use Rattle.packed.proofs.sums.values_after.Goals as goal

ruleset laws = (rules, sum_start, sum_fits, sum_again, sum_end)

pub loop-i-init : goal.loop-i-init
loop-i-init c = search laws

pub overflow_add-sum : goal.overflow_add-sum
overflow_add-sum c = search laws

pub loop-i-preserved : goal.loop-i-preserved
loop-i-preserved c = search laws

pub returns : goal.returns
returns c = search laws
