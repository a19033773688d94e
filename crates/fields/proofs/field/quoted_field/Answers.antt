-- `fields::field::quoted_field` meets its contract.
use borrow.Author.Rules.{rules}
use Rattle.fields.proofs.FieldLaws.{quoted_open, behind_closed, quoted_is}
use Rattle.fields.proofs.field.quoted_field.Goals as goal

ruleset laws = (rules, quoted_open, behind_closed)

pub past_spaces-next-requires : goal.past_spaces-next-requires
past_spaces-next-requires c = search laws

pub returns-in_err-closed : goal.returns-in_err-closed
returns-in_err-closed c = search laws

pub returns : goal.returns
returns c = quoted_is c.requires c.in_ok-closed.ensures c.past_spaces-next.ensures
