-- `quotes::put_times` meets its contract.
use borrow.Author.Rules.{rules}
use Rattle.quotes.proofs.NameLaws.{once_room, twice_room, twice_put, once_put}
use Rattle.quotes.proofs.put_times.Goals as goal

ruleset laws = (rules, once_room, twice_room, twice_put, once_put)

pub put_byte-next-requires : goal.put_byte-next-requires
put_byte-next-requires c = search laws

pub put_byte-requires : goal.put_byte-requires
put_byte-requires c = search laws

pub returns-then-byte-eq34 : goal.returns-then-byte-eq34
returns-then-byte-eq34 c = search laws

pub returns : goal.returns
returns c = search laws
