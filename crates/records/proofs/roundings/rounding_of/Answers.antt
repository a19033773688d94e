-- `records::roundings::rounding_of` meets its contract: 16 bytes, each field at its place, by `rounding_is`.
use borrow.Author.Rules.{rules}
use Rattle.records.proofs.RoundingLaws.{rounding_room, rounding_is}
use Rattle.records.proofs.roundings.rounding_of.Goals as goal

ruleset laws = (rules, rounding_room, rounding_is)

pub bounds-t-3 : goal.bounds-t-3
bounds-t-3 c = search laws

pub way_of-way-requires : goal.way_of-way-requires
way_of-way-requires c = search laws

pub signed_four_at-requires : goal.signed_four_at-requires
signed_four_at-requires c = search laws

pub signed_four_at-requires-2 : goal.signed_four_at-requires-2
signed_four_at-requires-2 c = search laws

pub half-requires : goal.half-requires
half-requires c = search laws

pub word-requires : goal.word-requires
word-requires c = search laws

pub returns : goal.returns
returns c = search laws
