-- `decimals::columns::quantity_size` meets its contract.
use borrow.Author.Rules.{rules}
use Rattle.decimals.proofs.ColumnLaws.{size_ended}
use Rattle.decimals.proofs.columns.quantity_size.Goals as goal

ruleset laws = (rules, size_ended)

pub returns : goal.returns
returns c = search laws
