-- `calendar::bytes::write_stretches` meets its contract: what is written and what is left make up the whole, by the laws `write_..`.
use borrow.Author.Rules.{rules}
use Rattle.calendar.proofs.ByteLaws.{write_again, write_end}
use Rattle.calendar.proofs.bytes.write_stretches.Goals as goal

ruleset laws = (rules, write_again, write_end)

pub loop-i-preserved : goal.loop-i-preserved
loop-i-preserved c = search laws

pub returns : goal.returns
returns c = search laws
