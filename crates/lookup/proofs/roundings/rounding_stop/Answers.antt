-- `lookup::roundings::rounding_stop` meets its contract: by the law `rounding_stops`.
use borrow.Author.Rules.{rules}
use Rattle.lookup.proofs.LookupLaws.{rounding_stops}
use Rattle.lookup.proofs.roundings.rounding_stop.Goals as goal

ruleset laws = (rules, rounding_stops)

pub returns : goal.returns
returns c = search laws
