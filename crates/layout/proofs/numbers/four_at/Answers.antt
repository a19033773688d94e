-- `layout::numbers::four_at` meets its contract: two halves, by `four_is`.
use borrow.Author.Rules.{rules}
use Rattle.layout.proofs.NumberLaws.{four_is}
use Rattle.layout.proofs.numbers.four_at.Goals as goal

ruleset laws = (rules, four_is)

pub returns : goal.returns
returns c = search laws
