-- `price_record::put_terms` meets its contract.
use borrow.Author.Rules.{rules}
use Rattle.price_record.proofs.PutLaws.{terms_put}
use Rattle.price_record.proofs.put_terms.Goals as goal

ruleset laws = (rules, terms_put)

pub put_kinds-a-requires : goal.put_kinds-a-requires
put_kinds-a-requires c = search laws

pub put_value-b-requires : goal.put_value-b-requires
put_value-b-requires c = search laws

pub put_currency-c-requires : goal.put_currency-c-requires
put_currency-c-requires c = search laws

pub put_span-requires : goal.put_span-requires
put_span-requires c = search laws

pub returns : goal.returns
returns c = search laws
