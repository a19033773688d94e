-- `questions::question_end` meets its contract: cut off in its length, shorter than it says, and a question.
use native.Mathlib.Omega.{arith}
use Rattle.questions.proofs.EndLaws.{end_short, end_cut, end_good}
use Rattle.questions.proofs.question_end.Goals as goal

pub returns-then-s-at-lt5 : goal.returns-then-s-at-lt5
returns-then-s-at-lt5 c = end_short _ _ c.if-s-at-lt5.true

pub returns-then-s-at : goal.returns-then-s-at
returns-then-s-at c = end_cut _ _ c.four_at-n.ensures c.if-s-at-lt5.false c.if-s-at.true

pub returns-then-question_ok : goal.returns-then-question_ok
returns-then-question_ok c = end_good _ _ c.four_at-n.ensures c.if-s-at.false c.if-s-at-lt5.false c.question_ok.ensures c.if-question_ok.true
