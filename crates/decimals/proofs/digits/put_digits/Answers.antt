-- `decimals::digits::put_digits` meets its contract: the digits behind are stored, and those in front are those of what is left.
use borrow.Author.Rules.{rules}
use Rattle.decimals.proofs.DigitLaws.{pairs_start, fill_two, fill_done, fill_last}
use Rattle.decimals.proofs.digits.put_digits.Goals as goal

ruleset laws = (rules, pairs_start, fill_two, fill_done, fill_last)

pub loop-before-init : goal.loop-before-init
loop-before-init c = search laws

pub loop-before-preserved : goal.loop-before-preserved
loop-before-preserved c = search laws

pub returns-then-k-eq0 : goal.returns-then-k-eq0
returns-then-k-eq0 c = search laws

pub returns : goal.returns
returns c = search laws
