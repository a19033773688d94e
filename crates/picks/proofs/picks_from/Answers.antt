-- `picks::picks_from` meets its contract: the rows that stand in the slots are picked one by one, by the laws `picks_..`; a row's rounding is at the
-- spot that was found for its number, by `found_at`, and its factor is that of its place.
use native.Mathlib.Omega.{arith}
use borrow.Author.Rules.{rules}
use Rattle.lookup.proofs.LookupLaws.{found_front}
use Rattle.picks.proofs.PickLaws.{filled_roundings, filled_few, filled_table, filled_granting, place_in, held_at, found_at}
use Rattle.picks.proofs.PickLaws.{picks_start, picks_turn, picks_end}
use Rattle.picks.proofs.picks_from.Goals as goal

ruleset laws = (rules, filled_roundings, filled_few, picks_start, picks_end)

pub overflow_cast-place : goal.overflow_cast-place
overflow_cast-place c =
    let pre = c.requires in
    record { fits = omega (arith, place_in pre c.held_in-held.ensures c.loop-i-test.true) }

pub factor_at-factor-requires : goal.factor_at-factor-requires
factor_at-factor-requires c =
    let pre = c.requires in
    record { g_len = filled_table pre; place_bound = place_in pre c.held_in-held.ensures c.loop-i-test.true; granting = filled_granting pre }

pub row_pick-requires : goal.row_pick-requires
row_pick-requires c =
    let pre = c.requires in
    let told = c.held_in-held.ensures in
    let l = c.loop-i-test.true in
    record { row_stands = held_at pre told l; row_found = found_at pre told l (found_front c.held_in-held.result.numbers c.held_in-held.result.n (omega (arith, told)) c.spots_of-spots.ensures); factor_le_most_factor = c.factor_at-factor.ensures.most }

pub loop-i-preserved : goal.loop-i-preserved
loop-i-preserved c = picks_turn c.loop-i.invariant (search rules) c.factor_at-factor.ensures c.row_pick.ensures

pub returns : goal.returns
returns c = picks_end c.held_in-held.ensures c.loop-i.invariant (omega arith)
