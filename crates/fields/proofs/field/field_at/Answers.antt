-- `fields::field::field_at` meets its contract.
use borrow.Author.Rules.{rules}
use Rattle.fields.proofs.FieldLaws.{bare_empty, bare_other, opened_here}
use Rattle.fields.proofs.field.field_at.Goals as goal

ruleset laws = (rules, bare_empty, bare_other, opened_here)

pub bare_field-requires : goal.bare_field-requires
bare_field-requires c = search laws

pub returns-then-line-at : goal.returns-then-line-at
returns-then-line-at c = search laws

pub quoted_field-requires : goal.quoted_field-requires
quoted_field-requires c = search laws

pub returns-then-line-at-eq34 : goal.returns-then-line-at-eq34
returns-then-line-at-eq34 c = search laws

pub bare_field-requires-2 : goal.bare_field-requires-2
bare_field-requires-2 c = search laws

pub returns : goal.returns
returns c = search laws
