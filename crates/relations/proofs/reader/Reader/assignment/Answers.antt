-- `relations::reader::Reader::assignment` meets its contract: with a condition, or without.
use Rattle.std.proofs.lemmas.Result.{err_from_is_err_and}
use Rattle.relations.proofs.AssignmentLaws.{assignment_wrong, assignment_if, assignment_plain}
use Rattle.relations.proofs.reader.Reader.assignment.Goals as goal

pub returns-in_err-chain-in-If : goal.returns-in_err-chain-in-If
returns-in_err-chain-in-If c = let p = err_from_is_err_and c.from_residual-in_err-chain-in-If.result c.from_residual-in_err-chain-in-If.ensures.1 in rw (p.1, p.2) (assignment_wrong c.in_ok-head.ensures c.in_ok-after.ensures c.in-If.is c.in_err-chain-in-If.ensures)

pub returns-in_ok-chain-in-If : goal.returns-in_ok-chain-in-If
returns-in_ok-chain-in-If c = assignment_if c.in_ok-head.ensures c.in_ok-after.ensures c.in-If.is c.in_ok-chain-in-If.ensures c.is_true.ensures

pub returns-in-Join : goal.returns-in-Join
returns-in-Join c = assignment_plain c.in_ok-head.ensures c.in_ok-after.ensures c.in-Join.is
