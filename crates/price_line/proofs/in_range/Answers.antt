-- `price_line::in_range` meets its contract.
use borrow.Author.Rules.{rules}
use Rattle.price_line.proofs.GroupLaws.{range_share, range_amount}
use Rattle.price_line.proofs.in_range.Goals as goal

ruleset laws = (rules, range_share, range_amount)

pub returns-then-flag-le48 : goal.returns-then-flag-le48
returns-then-flag-le48 c = search laws

pub returns : goal.returns
returns c = search laws
