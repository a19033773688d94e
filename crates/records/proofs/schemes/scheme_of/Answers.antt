-- `records::schemes::scheme_of` meets its contract: the three names end where the definition's do, by the laws `scheme_..`.
use borrow.Author.Rules.{rules}
use Rattle.records.proofs.SchemeLaws.{scheme_first, scheme_second, scheme_third, scheme_names}
use Rattle.records.proofs.schemes.scheme_of.Goals as goal

ruleset laws = (rules, scheme_first, scheme_second, scheme_third, scheme_names)

pub name_stop-numbers-requires : goal.name_stop-numbers-requires
name_stop-numbers-requires c = search laws

pub name_stop-values-requires : goal.name_stop-values-requires
name_stop-values-requires c = search laws

pub name_stop-choices-requires : goal.name_stop-choices-requires
name_stop-choices-requires c = search laws

pub scheme_from-requires : goal.scheme_from-requires
scheme_from-requires c = search laws

pub returns : goal.returns
returns c = search laws
