-- `packaging::from_spots` meets its contract: 8 by `spots_8`, and 11 or the answer by `spots_clash` and `spots_add`.
use Rattle.std.proofs.Common.{refl}
use Rattle.std.proofs.lemmas.Result.{err_from_is_err_and}
use Rattle.packaging.proofs.AnswerLaws.{spots_8, spots_add, spots_clash}
use Rattle.packaging.proofs.from_spots.Goals as goal

pub returns-then-is_none : goal.returns-then-is_none
returns-then-is_none c = let t = c.if-is_none.true in spots_8 c.args.b.now c.args.found.now _ refl (rw t at c.is_none.ensures)

pub returns-in_err-sums : goal.returns-in_err-sums
returns-in_err-sums c = let p = err_from_is_err_and c.from_residual.result c.from_residual.ensures.1 in rw (p.1, p.2) (spots_clash c.args.b.now c.args.found.now c.requires (rw c.if-is_none.false at c.is_none.ensures) c.in_err-sums.ensures)

pub returns : goal.returns
returns c = spots_add c.args.b.now c.args.found.now c.requires (rw c.if-is_none.false at c.is_none.ensures) c.in_ok-sums.ensures c.answer_of.ensures
