-- `price_record::put_name` meets its contract.
use borrow.Author.Rules.{rules}
use Rattle.price_record.proofs.PutLaws.{name_put}
use Rattle.price_record.proofs.put_name.Goals as goal

ruleset laws = (rules, name_put)

pub put_byte-from-requires : goal.put_byte-from-requires
put_byte-from-requires c = search laws

pub put_text-requires : goal.put_text-requires
put_text-requires c = search laws

pub returns : goal.returns
returns c = search laws
