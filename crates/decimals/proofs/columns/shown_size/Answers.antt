-- `decimals::columns::shown_size` meets its contract.
use borrow.Author.Rules.{rules}
use Rattle.decimals.proofs.ColumnLaws.{blank_size, digits_size}
use Rattle.decimals.proofs.columns.shown_size.Goals as goal

ruleset laws = (rules, blank_size, digits_size)

pub returns-then-n-eq0 : goal.returns-then-n-eq0
returns-then-n-eq0 c = search laws

pub returns-else-n-eq0 : goal.returns-else-n-eq0
returns-else-n-eq0 c = search laws
