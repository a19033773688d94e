-- `relations::conditions::turned_by` meets its contract: an even number of NOTs, or an odd one.
use borrow.Author.Rules.{rules}
use Rattle.relations.proofs.StartLaws.{turned_not, turned_so}
use Rattle.relations.proofs.conditions.turned_by.Goals as goal

ruleset laws = (rules, turned_not, turned_so)

pub returns-then-turned : goal.returns-then-turned
returns-then-turned c = search laws

pub returns : goal.returns
returns c = search laws
