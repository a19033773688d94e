use borrow.Author.Rules.{rules}
use Rattle.days.proofs.Laws.{leap_february, plain_february}
use Rattle.days.proofs.february.Goals as goal

ruleset laws = (rules, leap_february, plain_february)

pub returns-then-year : goal.returns-then-year
returns-then-year c = search laws

pub returns-else-year : goal.returns-else-year
returns-else-year c = search laws
