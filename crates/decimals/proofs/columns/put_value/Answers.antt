-- `decimals::columns::put_value` meets its contract.
use borrow.Author.Rules.{rules}
use Rattle.decimals.proofs.ColumnLaws.{end_first, plus_room, plus_put, minus_room, minus_put}
use Rattle.decimals.proofs.columns.put_value.Goals as goal

ruleset laws = (rules, end_first, plus_room, plus_put, minus_room, minus_put)

pub put_byte-from-requires : goal.put_byte-from-requires
put_byte-from-requires c = search laws

pub put_cents-requires : goal.put_cents-requires
put_cents-requires c = search laws

pub returns-then-value-lt0 : goal.returns-then-value-lt0
returns-then-value-lt0 c = search laws

pub put_cents-requires-else-value-lt0 : goal.put_cents-requires-else-value-lt0
put_cents-requires-else-value-lt0 c = search laws

pub returns-else-value-lt0 : goal.returns-else-value-lt0
returns-else-value-lt0 c = search laws
