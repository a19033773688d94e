-- `amounts::rounding::steps_by` meets its contract: each arm knows the way, and calls what the definition has for it.
use borrow.Author.Rules.{rules}
use Rattle.amounts.proofs.RoundedLaws.{by_down, by_up, by_nearest}
use Rattle.amounts.proofs.rounding.steps_by.Goals as goal

ruleset laws = (rules, by_down, by_up, by_nearest)

pub returns-in-Down : goal.returns-in-Down
returns-in-Down c = search laws

pub returns-in-Up : goal.returns-in-Up
returns-in-Up c = search laws

pub returns-in-Commercial : goal.returns-in-Commercial
returns-in-Commercial c = search laws
