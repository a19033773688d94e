-- `relation_words::runs::size_of` meets its contract: the digits so far, by the laws `sizing_..`.
use Rattle.std.proofs.Common.{arith}
use Rattle.relation_words.proofs.DigitLaws.{sizing_small, sizing_more, sizing_end}
use Rattle.relation_words.proofs.runs.size_of.Goals as goal

pub overflow_mul-size : goal.overflow_mul-size
overflow_mul-size c = let h = sizing_small c.requires.few c.loop-b.invariant c.loop-b-test.true in omega arith

pub overflow_add-size : goal.overflow_add-size
overflow_add-size c = let h = sizing_small c.requires.few c.loop-b.invariant c.loop-b-test.true in omega (arith, c.type_inv.digits c.loop-b.b-index)

pub loop-b-preserved : goal.loop-b-preserved
loop-b-preserved c = rw c.from.ensures (sizing_more c.requires.all c.loop-b.invariant c.loop-b-test.true)

pub returns : goal.returns
returns c = sizing_end c.requires.few c.loop-b.invariant c.loop-b.auto.b-index-end c.loop-b-test.false
