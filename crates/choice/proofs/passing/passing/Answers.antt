-- `choice::passing::passing` meets its contract: a row of the asked article and sort, or none, by the laws `passes_..`.
use borrow.Author.Rules.{rules}
use Rattle.records.proofs.PriceLaws.{row_kind}
use Rattle.choice.proofs.PassingLaws.{passes_row, passes_other}
use Rattle.choice.proofs.passing.passing.Goals as goal

ruleset laws = (rules, row_kind, passes_row, passes_other)

pub row_of-requires : goal.row_of-requires
row_of-requires c = search laws

pub returns-then-is_row : goal.returns-then-is_row
returns-then-is_row c = search laws

pub returns-else-is_row : goal.returns-else-is_row
returns-else-is_row c = search laws
