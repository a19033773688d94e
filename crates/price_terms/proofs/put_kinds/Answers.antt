-- `price_terms::put_kinds` meets its contract.
use Rattle.price_terms.proofs.PartLaws.{first_room, second_room, third_room, fourth_room, four_put}
use Rattle.price_terms.proofs.put_kinds.Goals as goal

pub put_letter-level-requires : goal.put_letter-level-requires
put_letter-level-requires c = search first_room

pub put_letter-rule-requires : goal.put_letter-rule-requires
put_letter-rule-requires c = search second_room

pub put_letter-number-requires : goal.put_letter-number-requires
put_letter-number-requires c = search third_room

pub put_text-requires : goal.put_text-requires
put_text-requires c = search fourth_room

pub returns : goal.returns
returns c = search four_put
