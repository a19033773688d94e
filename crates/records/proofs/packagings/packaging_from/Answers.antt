-- `records::packagings::packaging_from` meets its contract: by `packaging_is`.
use borrow.Author.Rules.{rules}
use Rattle.records.proofs.PackagingLaws.{packaging_is}
use Rattle.records.proofs.packagings.packaging_from.Goals as goal

ruleset laws = (rules, packaging_is)

pub values_at-values-requires : goal.values_at-values-requires
values_at-values-requires c = search laws

pub units_at-units-requires : goal.units_at-units-requires
units_at-units-requires c = search laws

pub returns : goal.returns
returns c = search laws
