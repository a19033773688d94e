use native.Mathlib.Omega.{arith}
use borrow.Author.Rules.{rules}
use Rattle.rules.proofs.DayLaws.{day_most, month_bounds}
use Rattle.days.proofs.Laws.{in_month, in_year, in_next_year}
use Rattle.days.proofs.Day.next.Goals as goal

ruleset laws = (rules, month_bounds, in_month, in_year, in_next_year)

pub days_in-requires : goal.days_in-requires
days_in-requires c = search laws

pub overflow_add-result : goal.overflow_add-result
overflow_add-result c = omega (arith, day_most c.args.self.0 c.requires)

pub returns-then-day-days_in : goal.returns-then-day-days_in
returns-then-day-days_in c = search laws

pub returns-then-month-lt12 : goal.returns-then-month-lt12
returns-then-month-lt12 c = search laws

pub overflow_mul-result-2 : goal.overflow_mul-result-2
overflow_mul-result-2 c = omega (arith, day_most c.args.self.0 c.requires)

pub overflow_add-result-3 : goal.overflow_add-result-3
overflow_add-result-3 c = omega (arith, day_most c.args.self.0 c.requires)

pub returns : goal.returns
returns c = search laws
