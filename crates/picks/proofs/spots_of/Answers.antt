-- `picks::spots_of` meets its contract: few spots were noted, many are walked for, by `few_noted` and `many_walked`.
use borrow.Author.Rules.{rules}
use Rattle.lookup.proofs.LookupLaws.{noted_front}
use Rattle.picks.proofs.PickLaws.{window_long, roundings_between, few_noted, many_walked}
use Rattle.picks.proofs.spots_of.Goals as goal

ruleset laws = (rules, window_long, roundings_between, few_noted, noted_front, many_walked)

pub spots_among-requires : goal.spots_among-requires
spots_among-requires c = search laws

pub returns-then-noted-lt-MANY : goal.returns-then-noted-lt-MANY
returns-then-noted-lt-MANY c = search laws

pub slice_bounds-rounding_spots-end : goal.slice_bounds-rounding_spots-end
slice_bounds-rounding_spots-end c = search laws

pub rounding_spots-requires : goal.rounding_spots-requires
rounding_spots-requires c = search laws

pub returns : goal.returns
returns c = search laws
