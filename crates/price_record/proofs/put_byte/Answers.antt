-- `price_record::put_byte` meets its contract.
use borrow.Author.Rules.{rules}
use Rattle.price_record.proofs.PutLaws.{byte_put}
use Rattle.price_record.proofs.put_byte.Goals as goal

ruleset laws = (rules, byte_put)

pub returns : goal.returns
returns c = search laws
