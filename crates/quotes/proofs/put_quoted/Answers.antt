-- `quotes::put_quoted` meets its contract.
use borrow.Author.Rules.{rules}
use Rattle.quotes.proofs.NameLaws.{open_room, inner_room, close_room, last_room, between_put}
use Rattle.quotes.proofs.put_quoted.Goals as goal

ruleset laws = (rules, open_room, inner_room, close_room, last_room, between_put)

pub put_byte-from-requires : goal.put_byte-from-requires
put_byte-from-requires c = search laws

pub put_doubled-close-requires : goal.put_doubled-close-requires
put_doubled-close-requires c = search laws

pub put_byte-end-requires : goal.put_byte-end-requires
put_byte-end-requires c = search close_room

pub put_byte-requires : goal.put_byte-requires
put_byte-requires c = search last_room

pub returns : goal.returns
returns c = search laws
