-- `decimals::columns::put_shown` meets its contract.
use borrow.Author.Rules.{rules}
use Rattle.decimals.proofs.ColumnLaws.{end_first, blank_put, digits_room, digits_end, digits_put}
use Rattle.decimals.proofs.columns.put_shown.Goals as goal

ruleset laws = (rules, end_first, blank_put, digits_room, digits_end, digits_put)

pub put_byte-requires : goal.put_byte-requires
put_byte-requires c = search laws

pub returns-then-n-eq0 : goal.returns-then-n-eq0
returns-then-n-eq0 c = search laws

pub put_digits-end-requires : goal.put_digits-end-requires
put_digits-end-requires c = search laws

pub put_byte-requires-2 : goal.put_byte-requires-2
put_byte-requires-2 c = search laws

pub returns : goal.returns
returns c = search laws
