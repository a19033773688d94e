-- `period::period_to` meets its contract: day after day, by the laws `count_..`.
use borrow.Author.Rules.{rules}
use Rattle.period.proofs.PeriodLaws.{no_end, end_before, count_start, count_turn, count_over, count_met}
use Rattle.period.proofs.period_to.Goals as goal

ruleset laws = (rules, no_end, end_before, count_start, count_turn, count_over, count_met)

pub returns-then-not-is_day : goal.returns-then-not-is_day
returns-then-not-is_day c = search laws

pub returns-then-end-start : goal.returns-then-end-start
returns-then-end-start c = search laws

pub loop-n-init : goal.loop-n-init
loop-n-init c = search laws

pub returns-then-d-end : goal.returns-then-d-end
returns-then-d-end c = search laws

pub loop-n-preserved : goal.loop-n-preserved
loop-n-preserved c = search laws

pub returns : goal.returns
returns c = search laws
