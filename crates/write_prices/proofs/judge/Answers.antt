-- `write_prices::judge` meets its contract.
use borrow.Author.Rules.{rules}
use Rattle.write_prices.proofs.WalkLaws.{judge_start, judge_end, judge_here, judge_add, judge_on, judge_bad, stop_less}
use Rattle.write_prices.proofs.judge.Goals as goal

ruleset laws = (rules, judge_start, judge_end, judge_here, judge_add, judge_on, judge_bad, stop_less)

pub loop-at-init : goal.loop-at-init
loop-at-init c = search laws

pub record_stop-end-requires : goal.record_stop-end-requires
record_stop-end-requires c = search laws

pub returns-in_default : goal.returns-in_default
returns-in_default c = judge_bad c.args.b.now c.loop-at.invariant c.loop-at-test.true c.record_stop-end.ensures c.in_default.ensures

pub loop-at-preserved : goal.loop-at-preserved
loop-at-preserved c = search laws

pub returns : goal.returns
returns c = search laws
