-- `quote::unused::brought` meets its contract: the flags and the lines that are left say the whole, by the laws `flag_..`.
use borrow.Author.Rules.{rules}
use Rattle.quote.proofs.UnusedLaws.{flag_start, flag_again, flag_end}
use Rattle.quote.proofs.unused.brought.Goals as goal

ruleset laws = (rules, flag_start, flag_again, flag_end)

pub loop-pick-init : goal.loop-pick-init
loop-pick-init c = search laws

pub loop-pick-preserved : goal.loop-pick-preserved
loop-pick-preserved c = search laws

pub returns : goal.returns
returns c = search laws
