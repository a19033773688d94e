-- `period::marks::change_of` meets its contract: a row of the article and sort, or any other record.
use borrow.Author.Rules.{rules}
use Rattle.records.proofs.PriceLaws.{row_kind}
use Rattle.period.proofs.MarkLaws.{row_change, no_change}
use Rattle.period.proofs.marks.change_of.Goals as goal

ruleset laws = (rules, row_kind, row_change, no_change)

pub row_of-row-requires : goal.row_of-row-requires
row_of-row-requires c = search laws

pub returns-then-is_row : goal.returns-then-is_row
returns-then-is_row c = search laws

pub returns-else-is_row : goal.returns-else-is_row
returns-else-is_row c = search laws
