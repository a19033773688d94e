-- `price_record::put_currency` meets its contract.
use borrow.Author.Rules.{rules}
use Rattle.price_record.proofs.PutLaws.{currency_put}
use Rattle.price_record.proofs.put_currency.Goals as goal

ruleset laws = (rules, currency_put)

pub put_byte-a-requires : goal.put_byte-a-requires
put_byte-a-requires c = search laws

pub put_byte-b-requires : goal.put_byte-b-requires
put_byte-b-requires c = search laws

pub put_byte-requires : goal.put_byte-requires
put_byte-requires c = search laws

pub returns : goal.returns
returns c = search laws
