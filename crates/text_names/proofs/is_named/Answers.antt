-- `text_names::is_named` meets its contract.
use borrow.Author.Rules.{rules}
use Rattle.text_names.proofs.NamesLaws.{some_field, named_is, starts_within, name_there}
use Rattle.text_names.proofs.is_named.Goals as goal

ruleset laws = (rules, named_is, starts_within, name_there)

pub field_at-requires : goal.field_at-requires
field_at-requires c = search laws

pub unreachable-requires : goal.unreachable-requires
unreachable-requires c = some_field c.requires.starts_name c.in_default.ensures

pub same_text-requires : goal.same_text-requires
same_text-requires c = search laws

pub returns : goal.returns
returns c = search laws
