-- `records::roundings::rounding_number` meets its contract: another kind, or the number read, by `number_none` and `number_some`.
use borrow.Author.Rules.{rules}
use Rattle.records.proofs.RoundingLaws.{rounding_room, told_rounding, number_none, number_some}
use Rattle.records.proofs.roundings.rounding_number.Goals as goal

ruleset laws = (rules, told_rounding, rounding_room, number_none, number_some)

pub half-requires : goal.half-requires
half-requires c = search laws

pub returns-then-is_rounding : goal.returns-then-is_rounding
returns-then-is_rounding c = search laws

pub returns : goal.returns
returns c = search laws
