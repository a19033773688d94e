-- `decimals::digits::digit_count` meets its contract: as many digits as were passed, and one more.
use borrow.Author.Rules.{rules}
use Rattle.decimals.proofs.DigitLaws.{count_start, count_on, count_end}
use Rattle.decimals.proofs.digits.digit_count.Goals as goal

ruleset laws = (rules, count_start, count_on, count_end)

pub loop-top-init : goal.loop-top-init
loop-top-init c = search laws

pub loop-top-preserved : goal.loop-top-preserved
loop-top-preserved c = search laws

pub returns : goal.returns
returns c = search laws
