-- `lookup::roundings::next_open` meets its contract: no record passed is looked for, by the laws `next_..`.
use borrow.Author.Rules.{rules}
use Rattle.lookup.proofs.LookupLaws.{next_none, next_start, next_end, next_here, next_accepted, next_less, next_found, next_other, next_again}
use Rattle.lookup.proofs.roundings.next_open.Goals as goal
use Rattle.lookup.proofs.roundings.next_open.Goals.{in_default-via-in-None-1, in_default-via-in-Some+else-low-number}

ruleset laws = (rules, next_none, next_start, next_end, next_here, next_accepted, next_less, next_found, next_other, next_again)

pub returns-then-not-any : goal.returns-then-not-any
returns-then-not-any c = search laws

pub loop-at-init : goal.loop-at-init
loop-at-init c = search laws

pub record_stop-end-requires : goal.record_stop-end-requires
record_stop-end-requires c = search laws

pub rounding_number-requires : goal.rounding_number-requires
rounding_number-requires c = search laws

pub returns-in-loop-at : goal.returns-in-loop-at
returns-in-loop-at c = next_found c.args.low.now c.args.any c.loop-at.invariant c.loop-at-test.true c.record_stop-end.ensures c.in-Some.ensures

pub loop-at-smaller : goal.loop-at-smaller
loop-at-smaller c = search laws

pub loop-at-preserved : goal.loop-at-preserved
loop-at-preserved c =
    elim c.in_default.branch [
      | in_default-via-in-None-1 w ↦ next_other c.args.low.now c.args.any c.loop-at.invariant c.loop-at-test.true c.record_stop-end.ensures (search rules)
      | in_default-via-in-Some+else-low-number w ↦ next_again c.args.low.now c.args.any c.loop-at.invariant c.loop-at-test.true c.record_stop-end.ensures {x = w.in-Some.number} w.in-Some.ensures w.if-low-number.false
    ]

pub returns : goal.returns
returns c = search laws
