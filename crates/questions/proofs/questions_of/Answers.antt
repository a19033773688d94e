-- `questions::questions_of` meets its contract: question after question, by the laws `reading_..`.
use Rattle.questions.proofs.ReadLaws.{reading_many, reading_broken, reading_again, reading_end}
use Rattle.questions.proofs.questions_of.Goals as goal

pub returns-then-most-count : goal.returns-then-most-count
returns-then-most-count c = reading_many _ _ c.loop-at.invariant c.loop-at-test.true c.if-most-count.true

pub returns-in_err-end : goal.returns-in_err-end
returns-in_err-end c = rw c.from_residual.ensures (reading_broken _ _ c.loop-at.invariant c.loop-at-test.true c.in_err-end.ensures)

pub loop-at-preserved : goal.loop-at-preserved
loop-at-preserved c = reading_again _ _ c.loop-at.invariant c.loop-at-test.true c.in_ok-end.ensures c.if-most-count.false

pub returns : goal.returns
returns c = reading_end _ _ c.loop-at.invariant c.loop-at-test.false
