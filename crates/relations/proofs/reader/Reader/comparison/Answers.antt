-- `relations::reader::Reader::comparison` meets its contract: no sign, IN, no second operand, or a comparison.
use Rattle.std.proofs.lemmas.Result.{err_from_is_err_and}
use Rattle.relations.proofs.SimpleLaws.{no_sign, with_in, no_second, compared_both}
use Rattle.relations.proofs.reader.Reader.comparison.Goals as goal

pub returns-in_err-sign : goal.returns-in_err-sign
returns-in_err-sign c = let p = err_from_is_err_and c.from_residual.result c.from_residual.ensures.1 in rw (p.1, p.2) (no_sign c.requires.operand_at c.is_name.ensures c.in_err-sign.ensures)

pub returns-in_default : goal.returns-in_default
returns-in_default c = with_in c.requires.operand_at c.is_name.ensures c.in_ok-sign.ensures c.word_of.ensures c.in_default.ensures _ c.among.ensures

pub returns-in_err-other : goal.returns-in_err-other
returns-in_err-other c = let p = err_from_is_err_and c.from_residual-in_err-other.result c.from_residual-in_err-other.ensures.1 in rw (p.1, p.2) (no_second c.requires.operand_at c.is_name.ensures c.in_ok-sign.ensures c.word_of.ensures c.in-Some.ensures c.in_err-other.ensures)

pub returns : goal.returns
returns c = compared_both c.requires.operand_at c.is_name.ensures c.in_ok-sign.ensures c.word_of.ensures c.in-Some.ensures c.in_ok-other.ensures c.comparison_of-truth.ensures
