-- `price_record::put_kinds` meets its contract.
use borrow.Author.Rules.{rules}
use Rattle.price_record.proofs.PutLaws.{kinds_put}
use Rattle.price_record.proofs.put_kinds.Goals as goal

ruleset laws = (rules, kinds_put)

pub digit_of-rule-requires : goal.digit_of-rule-requires
digit_of-rule-requires c = search laws

pub put_byte-a-requires : goal.put_byte-a-requires
put_byte-a-requires c = search laws

pub put_byte-b-requires : goal.put_byte-b-requires
put_byte-b-requires c = search laws

pub put_byte-c-requires : goal.put_byte-c-requires
put_byte-c-requires c = search laws

pub put_number-requires : goal.put_number-requires
put_number-requires c = search laws

pub returns : goal.returns
returns c = search laws
