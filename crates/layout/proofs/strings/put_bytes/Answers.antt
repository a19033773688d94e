-- `layout::strings::put_bytes` meets its contract: what is stored and what is left make up the whole, by the laws `store_..`.
use borrow.Author.Rules.{rules}
use Rattle.layout.proofs.StoreLaws.{store_start, store_again, store_end}
use Rattle.layout.proofs.strings.put_bytes.Goals as goal

ruleset laws = (rules, store_start, store_again, store_end)

pub loop-i-preserved : goal.loop-i-preserved
loop-i-preserved c = search laws

pub returns : goal.returns
returns c = search laws
