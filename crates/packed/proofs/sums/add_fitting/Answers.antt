-- `packed::sums::add_fitting` meets its contract: by the laws `fitting_added` and `not_added`.
use borrow.Author.Rules.{rules}
use Rattle.packed.proofs.SumLaws.{fitting_added, not_added}
use Rattle.packed.proofs.sums.add_fitting.Goals as goal

ruleset laws = (rules, fitting_added, not_added)

pub returns-then-not-units_go : goal.returns-then-not-units_go
returns-then-not-units_go c = search laws

pub returns : goal.returns
returns c = search laws
