-- `price_record::put_head` meets its contract.
use borrow.Author.Rules.{rules}
use Rattle.price_record.proofs.PutLaws.{head_put}
use Rattle.price_record.proofs.put_head.Goals as goal

ruleset laws = (rules, head_put)

pub put_pair-kind-requires : goal.put_pair-kind-requires
put_pair-kind-requires c = search laws

pub put_byte-requires : goal.put_byte-requires
put_byte-requires c = search laws

pub returns : goal.returns
returns c = search laws
