-- `relation_truth::orders::text_order` meets its contract: each way out by its law.
use Rattle.std.proofs.Common.{arith, sym, ◌∙◌}
use Rattle.relation_truth.proofs.OrderLaws.{text_start, text_longer, text_ends, text_decided, text_again}
use Rattle.relation_truth.proofs.orders.text_order.Goals as goal

pub loop-i-init : goal.loop-i-init
loop-i-init c = text_start _ _ _

pub returns-then-b-i : goal.returns-then-b-i
returns-then-b-i c = text_longer c.loop-i.invariant (omega arith) c.if-b-i.true

pub returns-then-is_ne : goal.returns-then-is_ne
returns-then-is_ne c = text_decided c.loop-i.invariant (omega arith) c.if-b-i.false c.spoken_byte.ensures c.spoken_byte-in-loop-i.ensures c.cmp-order.ensures (sym c.is_ne.ensures ∙ c.if-is_ne.true)

pub loop-i-preserved : goal.loop-i-preserved
loop-i-preserved c = text_again c.loop-i.invariant (omega arith) c.if-b-i.false c.spoken_byte.ensures c.spoken_byte-in-loop-i.ensures c.cmp-order.ensures (sym c.is_ne.ensures ∙ c.if-is_ne.false)

pub returns : goal.returns
returns c = text_ends c.loop-i.invariant (omega arith) c.cmp.ensures
