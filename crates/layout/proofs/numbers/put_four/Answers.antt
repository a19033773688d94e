-- `layout::numbers::put_four` meets its contract: two halves, by `puts_four`.
use borrow.Author.Rules.{rules}
use Rattle.layout.proofs.StoreLaws.{puts_four}
use Rattle.layout.proofs.numbers.put_four.Goals as goal

ruleset laws = (rules, puts_four)

pub returns : goal.returns
returns c = search laws
