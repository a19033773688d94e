-- `layout::names::put_raised` meets its contract: what is stored and what is left make up the whole, by the laws `raise_..`.
use borrow.Author.Rules.{rules}
use Rattle.layout.proofs.NameLaws.{raise_again, raise_end}
use Rattle.layout.proofs.names.put_raised.Goals as goal

ruleset laws = (rules, raise_again, raise_end)

pub loop-i-preserved : goal.loop-i-preserved
loop-i-preserved c = search laws

pub returns : goal.returns
returns c = search laws
