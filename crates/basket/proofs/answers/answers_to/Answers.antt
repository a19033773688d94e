-- `basket::answers::answers_to` meets its contract: answer behind answer, by the laws `answers_..`.
use native.Mathlib.Omega.{arith}
use Rattle.basket.proofs.AnswerLaws.{answers_start, answers_again, answers_end}
use Rattle.basket.proofs.answers.answers_to.Goals as goal

pub loop-j-init : goal.loop-j-init
loop-j-init c = answers_start c.requires c.args.kept.now

pub loop-j-preserved : goal.loop-j-preserved
loop-j-preserved c = answers_again c.loop-j.invariant (omega arith) c.answer-told.ensures c.put_answer.ensures

pub returns : goal.returns
returns c = answers_end c.loop-j.invariant (omega arith)
