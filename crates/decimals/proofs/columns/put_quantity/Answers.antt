-- `decimals::columns::put_quantity` meets its contract.
use borrow.Author.Rules.{rules}
use Rattle.decimals.proofs.ColumnLaws.{room_in, end_room, end_behind}
use Rattle.decimals.proofs.columns.put_quantity.Goals as goal

ruleset laws = (rules, room_in, end_room, end_behind)

pub put_decimal-end-requires : goal.put_decimal-end-requires
put_decimal-end-requires c = search laws

pub put_byte-requires : goal.put_byte-requires
put_byte-requires c = search laws

pub returns : goal.returns
returns c = search laws
