-- `picks::picks_from` meets its contract: the rows that stand in the slots are picked one by one, by the laws `picks_..`; a row's rounding is at the
-- spot that was found for its number, by `found_at`, and its factor is that of its place.
use Rattle.picks.specs.Picks.{PicksSoFar}
use Rattle.picks.proofs.picks_from.Given as goal

abbrev pub invariant-loop-i : goal.invariant-loop-i
invariant-loop-i l = PicksSoFar l.b l.asking.table.now l.held.ats l.held.places l.rows l.i
