-- `price_record::put_row` meets its contract.
use borrow.Author.Rules.{rules}
use Rattle.price_record.proofs.PutLaws.{article_room, condition_room, terms_room, row_put}
use Rattle.price_record.proofs.put_row.Goals as goal

ruleset laws = (rules, article_room, condition_room, terms_room, row_put)

pub put_head-a-requires : goal.put_head-a-requires
put_head-a-requires c = search laws

pub put_name-b-requires : goal.put_name-b-requires
put_name-b-requires c = search laws

pub put_name-c-requires : goal.put_name-c-requires
put_name-c-requires c = search laws

pub put_terms-requires : goal.put_terms-requires
put_terms-requires c = search laws

pub returns : goal.returns
returns c = search laws
