-- `picks::picks_on` meets its contract: the slots of the day are filled as a walk over the window fills them, by the laws `within_..`.
use borrow.Author.Rules.{rules}
use Rattle.picks.proofs.PickLaws.{within_filled, within_picks}
use Rattle.picks.proofs.picks_on.Goals as goal

ruleset laws = (rules, within_filled, within_picks)

pub picks_from-requires : goal.picks_from-requires
picks_from-requires c = search laws

pub returns : goal.returns
returns c = search laws
