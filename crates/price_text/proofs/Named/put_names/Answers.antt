-- `price_text::Named::put_names` meets its contract.
use borrow.Author.Rules.{rules}
use Rattle.price_terms.proofs.PartLaws.{room_one, room_two, two_put}
use Rattle.price_text.proofs.Named.put_names.Goals as goal

ruleset laws = (rules, room_one, room_two, two_put)

pub put_name-next-requires : goal.put_name-next-requires
put_name-next-requires c = search laws

pub put_name-requires : goal.put_name-requires
put_name-requires c = search laws

pub returns : goal.returns
returns c = search laws
