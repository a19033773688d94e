-- `judging::judge` meets its contract: from each line on, what is left of the room decides.
use Rattle.judging.proofs.JudgeLaws.{judge_on, judge_bad, judge_fits, judge_short}
use Rattle.judging.proofs.judge.Goals as goal

pub loop-at-preserved : goal.loop-at-preserved
loop-at-preserved c = judge_on c.loop-at.invariant c.loop-at-test.true c.cut_at-end.ensures c.in-Some.ensures c.less-left.ensures

pub returns-in_default : goal.returns-in_default
returns-in_default c = judge_bad c.loop-at.invariant c.loop-at-test.true c.cut_at-end.ensures c.in_default.ensures c.refused.ensures

pub returns-in-Some-left : goal.returns-in-Some-left
returns-in-Some-left c = judge_fits c.loop-at.invariant c.in-Some-left.is c.loop-at-test.false

pub returns-in-None : goal.returns-in-None
returns-in-None c = judge_short c.loop-at.invariant c.in-None.is c.loop-at-test.false c.refused-in-None.ensures
