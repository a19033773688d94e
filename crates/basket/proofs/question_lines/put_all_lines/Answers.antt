-- `basket::question_lines::put_all_lines` meets its contract: the lines of question after question, by the laws `lines_..`.
use native.Mathlib.Omega.{arith}
use Rattle.basket.proofs.LineLaws.{lines_again, lines_end}
use Rattle.basket.proofs.question_lines.put_all_lines.Goals as goal

pub loop-j-preserved : goal.loop-j-preserved
loop-j-preserved c = lines_again c.loop-j.invariant (omega arith) c.answer-told.ensures

pub returns : goal.returns
returns c = lines_end c.loop-j.invariant (omega arith) c.unwrap_or.ensures
