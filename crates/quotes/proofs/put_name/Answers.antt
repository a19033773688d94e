-- `quotes::put_name` meets its contract.
use borrow.Author.Rules.{rules}
use Rattle.quotes.proofs.NameLaws.{quoted_room, bare_room, bare_end, quoted_put, bare_put}
use Rattle.quotes.proofs.put_name.Goals as goal

ruleset laws = (rules, quoted_room, bare_room, bare_end, quoted_put, bare_put)

pub put_quoted-requires : goal.put_quoted-requires
put_quoted-requires c = search laws

pub returns-then-needs_quotes : goal.returns-then-needs_quotes
returns-then-needs_quotes c = search laws

pub put_bytes-end-requires : goal.put_bytes-end-requires
put_bytes-end-requires c = search laws

pub put_byte-requires : goal.put_byte-requires
put_byte-requires c = search laws

pub returns : goal.returns
returns c = search laws
