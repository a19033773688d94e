-- `decimals::columns::text_size` meets its contract.
use borrow.Author.Rules.{rules}
use Rattle.decimals.proofs.ColumnLaws.{text_number}
use Rattle.decimals.proofs.columns.text_size.Goals as goal

ruleset laws = (rules, text_number)

pub returns : goal.returns
returns c = search laws
