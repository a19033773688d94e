-- `lookup::roundings::rounding_at` meets its contract: the plain rounding, or the one that stands there, by `plain_at` and `rounding_at_lem`.
use borrow.Author.Rules.{rules}
use Rattle.lookup.proofs.LookupLaws.{plain_at, held_here, held_kind, rounding_at_lem}
use Rattle.lookup.proofs.roundings.rounding_at.Goals as goal

ruleset laws = (rules, plain_at, held_here, held_kind, rounding_at_lem)

pub plain_rounding-requires : goal.plain_rounding-requires
plain_rounding-requires c = search laws

pub returns-then-spot-eq0 : goal.returns-then-spot-eq0
returns-then-spot-eq0 c = search laws

pub record_stop-end-requires : goal.record_stop-end-requires
record_stop-end-requires c = search laws

pub rounding_of-requires : goal.rounding_of-requires
rounding_of-requires c = search laws

pub returns : goal.returns
returns c = search laws
