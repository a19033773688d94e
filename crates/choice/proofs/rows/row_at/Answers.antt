-- `choice::rows::row_at` meets its contract: a record stands there, and it is a price row, by the laws `stands_..`.
use borrow.Author.Rules.{rules}
use Rattle.choice.proofs.ChosenLaws.{stands_kind}
use Rattle.choice.proofs.rows.row_at.Goals as goal

ruleset laws = (rules, stands_kind)

pub row_of-requires : goal.row_of-requires
row_of-requires c = search laws
