-- `relations::reader::Reader::values` meets its contract: constants so far, by the laws `values_..`.
use Rattle.std.proofs.lemmas.Result.{err_from_is_err_and}
use Rattle.relations.proofs.AmongLaws.{values_start, values_wrong, values_done, values_on}
use Rattle.relations.proofs.reader.Reader.values.Goals as goal

pub loop-one-init : goal.loop-one-init
loop-one-init c = values_start c.requires

pub returns-in_err-mark : goal.returns-in_err-mark
returns-in_err-mark c = let p = err_from_is_err_and c.from_residual-in_err-mark.result c.from_residual-in_err-mark.ensures.1 in rw (p.1, p.2) (values_wrong c.loop-one.truth c.loop-one.invariant c.in_ok-one.ensures c.equal_to.ensures c.or-truth.ensures c.in_err-mark.ensures)

pub returns-then-mark : goal.returns-then-mark
returns-then-mark c = values_done c.loop-one.truth c.loop-one.invariant c.in_ok-one.ensures c.equal_to.ensures c.or-truth.ensures c.in_ok-mark.ensures c.if-mark.true

pub loop-one-preserved : goal.loop-one-preserved
loop-one-preserved c = values_on c.loop-one.truth c.loop-one.invariant c.in_ok-one.ensures c.equal_to.ensures c.or-truth.ensures c.in_ok-mark.ensures c.if-mark.false
