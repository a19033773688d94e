-- `records::packagings::packaging_of` meets its contract: the two names end where the definition's do, by the laws `packaging_..`.
use borrow.Author.Rules.{rules}
use Rattle.records.proofs.PackagingLaws.{packaging_first, packaging_second, packaging_names}
use Rattle.records.proofs.packagings.packaging_of.Goals as goal

ruleset laws = (rules, packaging_first, packaging_second, packaging_names)

pub name_stop-condition-requires : goal.name_stop-condition-requires
name_stop-condition-requires c = search laws

pub name_stop-presence-requires : goal.name_stop-presence-requires
name_stop-presence-requires c = search laws

pub packaging_from-requires : goal.packaging_from-requires
packaging_from-requires c = search laws

pub returns : goal.returns
returns c = search laws
