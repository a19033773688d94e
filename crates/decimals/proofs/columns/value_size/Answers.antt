-- `decimals::columns::value_size` meets its contract.
use borrow.Author.Rules.{rules}
use Rattle.decimals.proofs.ColumnLaws.{plus_size, minus_size}
use Rattle.decimals.proofs.columns.value_size.Goals as goal

ruleset laws = (rules, plus_size, minus_size)

pub returns-then-value-lt0 : goal.returns-then-value-lt0
returns-then-value-lt0 c = search laws

pub returns-else-value-lt0 : goal.returns-else-value-lt0
returns-else-value-lt0 c = search laws
