-- `picks::picks_within` meets its contract: a walk over the window fills the slots as one over the book, by the laws `within_..`.
use borrow.Author.Rules.{rules}
use Rattle.picks.proofs.PickLaws.{within_filled, within_picks}
use Rattle.picks.proofs.picks_within.Goals as goal

ruleset laws = (rules, within_filled, within_picks)

pub picks_from-requires : goal.picks_from-requires
picks_from-requires c = search laws

pub returns : goal.returns
returns c = search laws
