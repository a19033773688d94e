-- `fields::field::next_field` meets its contract.
use borrow.Author.Rules.{rules}
use Rattle.fields.proofs.FieldLaws.{next_end, next_other, next_by}
use Rattle.fields.proofs.field.next_field.Goals as goal

ruleset laws = (rules, next_end, next_other, next_by)

pub returns-then-line-at : goal.returns-then-line-at
returns-then-line-at c = search laws

pub returns-then-line-at-eq59 : goal.returns-then-line-at-eq59
returns-then-line-at-eq59 c = search laws

pub returns : goal.returns
returns c = search laws
