-- `records::roundings::is_rounding` meets its contract: by the law `rounding_told`.
use borrow.Author.Rules.{rules}
use Rattle.records.proofs.FieldLaws.{accepted_long}
use Rattle.records.proofs.RoundingLaws.{rounding_told}
use Rattle.records.proofs.roundings.is_rounding.Goals as goal

ruleset laws = (rules, accepted_long, rounding_told)

pub bounds-t-0 : goal.bounds-t-0
bounds-t-0 c = search laws

pub returns : goal.returns
returns c = search laws
