-- `picks::row_pick` meets its contract: the row is read, and its rounding where that was found, by the law `row_picked`.
use borrow.Author.Rules.{rules}
use Rattle.picks.proofs.PickLaws.{found_held, row_picked}
use Rattle.picks.proofs.row_pick.Goals as goal

ruleset laws = (rules, found_held, row_picked)

pub row_at-row-requires : goal.row_at-row-requires
row_at-row-requires c = search laws

pub rounding_at-requires : goal.rounding_at-requires
rounding_at-requires c = search laws

pub returns : goal.returns
returns c = search laws
