-- `lines::in_one_currency` meets its contract: the flag and the rows that are left say the whole, by the laws `compare_..`.
use borrow.Author.Rules.{rules}
use Rattle.lines.proofs.WalkLaws.{compare_again}
use Rattle.lines.proofs.in_one_currency.Goals as goal

ruleset laws = (rules, compare_again)

pub loop-pick-preserved : goal.loop-pick-preserved
loop-pick-preserved c = search laws
