-- `figures::behind_point` meets its contract.
use borrow.Author.Rules.{rules}
use Rattle.figures.proofs.AmountLaws.{point_there, point_none}
use Rattle.figures.proofs.behind_point.Goals as goal

ruleset laws = (rules, point_there, point_none)

pub returns-then-p-s : goal.returns-then-p-s
returns-then-p-s c = search laws

pub returns-else-p-s : goal.returns-else-p-s
returns-else-p-s c = search laws
