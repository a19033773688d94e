-- `reading::rows::put_waiting` meets its contract.
use borrow.Author.Rules.{rules}
use Rattle.reading.proofs.PutLaws.{kind_room, waiting_put}
use Rattle.reading.proofs.rows.put_waiting.Goals as goal

ruleset laws = (rules, kind_room, waiting_put)

pub put_row-end-requires : goal.put_row-end-requires
put_row-end-requires c = search laws

pub overflow_add-out : goal.overflow_add-out
overflow_add-out c = search laws

pub bounds-out-to : goal.bounds-out-to
bounds-out-to c = search laws

pub returns : goal.returns
returns c = search laws
