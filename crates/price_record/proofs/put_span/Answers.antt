-- `price_record::put_span` meets its contract.
use borrow.Author.Rules.{rules}
use Rattle.price_record.proofs.PutLaws.{span_put}
use Rattle.price_record.proofs.put_span.Goals as goal

ruleset laws = (rules, span_put)

pub put_number-a-requires : goal.put_number-a-requires
put_number-a-requires c = search laws

pub put_number-b-requires : goal.put_number-b-requires
put_number-b-requires c = search laws

pub put_number-c-requires : goal.put_number-c-requires
put_number-c-requires c = search laws

pub put_pair-requires : goal.put_pair-requires
put_pair-requires c = search laws

pub returns : goal.returns
returns c = search laws
