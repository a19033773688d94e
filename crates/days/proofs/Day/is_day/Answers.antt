use borrow.Author.Rules.{rules}
use Rattle.days.proofs.Laws.{month_low, month_high, other_tests}
use Rattle.days.proofs.Day.is_day.Goals as goal

ruleset laws = (rules, month_low, month_high, other_tests)

pub returns-then-month-lt1 : goal.returns-then-month-lt1
returns-then-month-lt1 c = search laws

pub returns-then-month-gt12 : goal.returns-then-month-gt12
returns-then-month-gt12 c = search laws

pub days_in-requires : goal.days_in-requires
days_in-requires c = search laws

pub returns : goal.returns
returns c = search laws
