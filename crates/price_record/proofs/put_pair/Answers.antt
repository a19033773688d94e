-- `price_record::put_pair` meets its contract: two stores, by `pair_put`.
use native.Mathlib.Omega.{arith}
use lib.ListN.{length-set}
use borrow.Author.Rules.{rules}
use Rattle.price_record.proofs.PutLaws.{pair_put}
use Rattle.price_record.proofs.put_pair.Goals as goal

ruleset laws = (rules, pair_put)

pub bounds-out-at-2 : goal.bounds-out-at-2
bounds-out-at-2 c = simp length-set (omega arith)

pub returns : goal.returns
returns c = search laws
