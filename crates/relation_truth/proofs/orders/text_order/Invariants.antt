-- `relation_truth::orders::text_order` meets its contract: the bytes passed so far are alike.
use Rattle.relation_truth.proofs.OrderLaws.{Alike}
use Rattle.relation_truth.proofs.orders.text_order.Given as goal

abbrev pub invariant-loop-i : goal.invariant-loop-i
invariant-loop-i l = Alike l.raised l.a l.b l.i
