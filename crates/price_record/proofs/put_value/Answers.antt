-- `price_record::put_value` meets its contract.
use borrow.Author.Rules.{rules}
use Rattle.price_record.proofs.PutLaws.{value_put}
use Rattle.price_record.proofs.put_value.Goals as goal

ruleset laws = (rules, value_put)

pub twos_of-n-requires : goal.twos_of-n-requires
twos_of-n-requires c = search laws

pub flag_of-flag-requires : goal.flag_of-flag-requires
flag_of-flag-requires c = search laws

pub put_byte-a-requires : goal.put_byte-a-requires
put_byte-a-requires c = search laws

pub put_number-requires : goal.put_number-requires
put_number-requires c = search laws

pub returns : goal.returns
returns c = search laws
