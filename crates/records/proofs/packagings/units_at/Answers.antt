-- `records::packagings::units_at` meets its contract: nine bytes, three for a unit, by `units_are`.
use borrow.Author.Rules.{rules}
use Rattle.records.proofs.PackagingLaws.{units_are}
use Rattle.records.proofs.packagings.units_at.Goals as goal

ruleset laws = (rules, units_are)

pub returns : goal.returns
returns c = search laws
