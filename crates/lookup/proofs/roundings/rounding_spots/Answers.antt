-- `lookup::roundings::rounding_spots` meets its contract: each number is found, or the records left have what all have, by the laws `placing_..`.
use borrow.Author.Rules.{rules}
use Rattle.lookup.proofs.LookupLaws.{placing_start, placing_end, placing_here, placing_fits, placing_kind, placing_between, placing_less, placing_again}
use Rattle.lookup.proofs.roundings.rounding_spots.Goals as goal

ruleset laws = (rules, placing_start, placing_end, placing_here, placing_fits, placing_kind, placing_between, placing_less, placing_again)

pub flag_open-open-requires : goal.flag_open-open-requires
flag_open-open-requires c = search laws

pub next_open-at-requires : goal.next_open-at-requires
next_open-at-requires c = search laws

pub loop-at-init : goal.loop-at-init
loop-at-init c = search laws

pub rounding_stop-end-requires : goal.rounding_stop-end-requires
rounding_stop-end-requires c =
    record { rounding_here = placing_here c.loop-at.invariant c.loop-at-test.true; at_in_bounds = placing_fits c.loop-at.invariant c.loop-at-test.true }

pub rounding_of-rounding-requires : goal.rounding_of-rounding-requires
rounding_of-rounding-requires c = search laws

pub note_rounding-left-requires : goal.note_rounding-left-requires
note_rounding-left-requires c = search laws

pub next_open-at-requires-in-loop-at : goal.next_open-at-requires-in-loop-at
next_open-at-requires-in-loop-at c = placing_between c.loop-at.invariant c.loop-at-test.true c.rounding_stop-end.ensures

pub loop-at-smaller : goal.loop-at-smaller
loop-at-smaller c = placing_less c.loop-at.invariant c.loop-at-test.true c.rounding_stop-end.ensures c.next_open-at-in-loop-at.ensures

pub loop-at-preserved : goal.loop-at-preserved
loop-at-preserved c = placing_again c.loop-at.invariant c.loop-at-test.true c.rounding_stop-end.ensures c.rounding_of-rounding.ensures c.note_rounding-left.ensures c.next_open-at-in-loop-at.ensures

pub returns : goal.returns
returns c = search laws
