-- `layout::numbers::put_eight` meets its contract: two halves, by `puts_eight`.
use borrow.Author.Rules.{rules}
use Rattle.layout.proofs.StoreLaws.{puts_eight}
use Rattle.layout.proofs.numbers.put_eight.Goals as goal

ruleset laws = (rules, puts_eight)

pub returns : goal.returns
returns c = search laws
