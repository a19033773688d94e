-- `price_terms::put_letter` meets its contract.
use borrow.Author.Rules.{rules}
use Rattle.decimals.proofs.ColumnLaws.{end_first, end_room, end_behind}
use Rattle.price_terms.proofs.put_letter.Goals as goal

ruleset laws = (rules, end_first, end_room, end_behind)

pub put_byte-end-requires : goal.put_byte-end-requires
put_byte-end-requires c = search laws

pub put_byte-requires : goal.put_byte-requires
put_byte-requires c = search laws

pub returns : goal.returns
returns c = search laws
