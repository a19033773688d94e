-- `choice::block::record_through` meets its contract: a row of the asked article and sort, or none, by the laws `through_..`.
use borrow.Author.Rules.{rules}
use Rattle.records.proofs.PriceLaws.{row_kind}
use Rattle.choice.proofs.BlockLaws.{through_row, through_other}
use Rattle.choice.proofs.block.record_through.Goals as goal

ruleset laws = (rules, row_kind, through_row, through_other)

pub row_of-requires : goal.row_of-requires
row_of-requires c = search laws

pub returns-then-is_row : goal.returns-then-is_row
returns-then-is_row c = search laws

pub returns-else-is_row : goal.returns-else-is_row
returns-else-is_row c = search laws
