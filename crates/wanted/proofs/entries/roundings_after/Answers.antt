-- `wanted::entries::roundings_after` meets its contract: by `rounded_is`.
use borrow.Author.Rules.{rules}
use Rattle.wanted.proofs.EntryLaws.{rounded_is}
use Rattle.wanted.proofs.entries.roundings_after.Goals as goal

ruleset laws = (rules, rounded_is)

pub is_rounding-requires : goal.is_rounding-requires
is_rounding-requires c = search laws

pub widened-requires : goal.widened-requires
widened-requires c = search laws

pub returns : goal.returns
returns c = search laws
