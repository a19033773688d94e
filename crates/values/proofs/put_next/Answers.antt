-- `values::put_next` meets its contract: by the laws `next_..`.
use borrow.Author.Rules.{rules}
use Rattle.values.proofs.ValueLaws.{next_none, next_room, next_some}
use Rattle.values.proofs.put_next.Goals as goal

ruleset laws = (rules, next_none, next_room, next_some)

pub returns-then-left_out : goal.returns-then-left_out
returns-then-left_out c = search laws

pub put_value-requires : goal.put_value-requires
put_value-requires c = search laws

pub returns : goal.returns
returns c = search laws
