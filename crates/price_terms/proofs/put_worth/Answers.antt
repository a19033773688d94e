-- `price_terms::put_worth` meets its contract.
use borrow.Author.Rules.{rules}
use Rattle.price_terms.proofs.PartLaws.{first_room, second_room, third_fits, fourth_byte, four_put}
use Rattle.price_terms.proofs.put_worth.Goals as goal

ruleset laws = (rules, first_room)

pub put_value-a-requires : goal.put_value-a-requires
put_value-a-requires c = search laws

pub put_letter-b-requires : goal.put_letter-b-requires
put_letter-b-requires c = search second_room

pub put_bytes-c-requires : goal.put_bytes-c-requires
put_bytes-c-requires c = search third_fits

pub put_byte-requires : goal.put_byte-requires
put_byte-requires c = search fourth_byte

pub returns : goal.returns
returns c = search four_put
