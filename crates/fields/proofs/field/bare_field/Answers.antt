-- `fields::field::bare_field` meets its contract.
use borrow.Author.Rules.{rules}
use Rattle.fields.proofs.FieldLaws.{bare_is}
use Rattle.fields.proofs.field.bare_field.Goals as goal

ruleset laws = (rules, bare_is)

pub cut_at-to-requires : goal.cut_at-to-requires
cut_at-to-requires c = search laws

pub returns : goal.returns
returns c = search laws
