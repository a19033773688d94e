-- `decimals::columns::put_cents` meets its contract.
use borrow.Author.Rules.{rules}
use Rattle.decimals.proofs.ColumnLaws.{whole_room, point_room, cents_room, cents_end, cents_put}
use Rattle.decimals.proofs.columns.put_cents.Goals as goal

ruleset laws = (rules, whole_room, point_room, cents_room, cents_end, cents_put)

pub put_decimal-point-requires : goal.put_decimal-point-requires
put_decimal-point-requires c = search laws

pub put_byte-cents-requires : goal.put_byte-cents-requires
put_byte-cents-requires c = search laws

pub put_digits-end-requires : goal.put_digits-end-requires
put_digits-end-requires c = search laws

pub put_byte-requires : goal.put_byte-requires
put_byte-requires c = search cents_end

pub returns : goal.returns
returns c = search laws
