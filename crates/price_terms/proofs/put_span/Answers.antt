-- `price_terms::put_span` meets its contract.
use Rattle.price_terms.proofs.PartLaws.{first_room, second_room, third_room, fourth_byte, four_put}
use Rattle.price_terms.proofs.put_span.Goals as goal

pub put_date-a-requires : goal.put_date-a-requires
put_date-a-requires c = search first_room

pub put_date-b-requires : goal.put_date-b-requires
put_date-b-requires c = search second_room

pub put_quantity-c-requires : goal.put_quantity-c-requires
put_quantity-c-requires c = search third_room

pub put_byte-requires : goal.put_byte-requires
put_byte-requires c = search fourth_byte

pub returns : goal.returns
returns c = search four_put
