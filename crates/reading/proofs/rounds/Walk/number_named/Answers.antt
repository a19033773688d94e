-- `reading::rounds::Walk::number_named` meets its contract.
use Prim.Native.Nat.{◌≤◌, ◌<◌}
use mathlib.Core.Path.{sym, ◌∙◌}
use borrow.Author.Tests.{leb-true, leb-false}
use Rattle.reading.proofs.MoveLaws.{due_put, move_found, move_new, move_past}
use Rattle.reading.proofs.rounds.Walk.number_named.Goals as goal

pub put_row-self-requires : goal.put_row-self-requires
put_row-self-requires c = due_put c.requires.due

pub returns-in-Some : goal.returns-in-Some
returns-in-Some c = move_found c.requires.due c.requires.le_count c.in-Some.ensures c.low_four.ensures c.put_row-self.ensures

pub put_waiting-self-requires : goal.put_waiting-self-requires
put_waiting-self-requires c = due_put c.requires.due

pub returns-then-is_full : goal.returns-then-is_full
returns-then-is_full c = let full : 65535 ≤ c.args.self.now.names.count = leb-true 65535 c.args.self.now.names.count (sym c.is_full.ensures ∙ c.if-is_full.true) in
    move_past c.requires.due c.requires.le_count c.in_default.ensures full c.put_waiting-self.ensures

pub put_row-self-requires-2 : goal.put_row-self-requires-2
put_row-self-requires-2 c = due_put c.requires.due

pub returns : goal.returns
returns c = let some_room : c.args.self.now.names.count < 65535 = leb-false 65535 c.args.self.now.names.count (sym c.is_full.ensures ∙ c.if-is_full.false) in
    move_new c.requires.due c.requires.le_count c.in_default.ensures some_room c.hash_of-h.ensures c.hash_of-h.type_inv c.name_start.ensures c.enter.ensures
    c.low_four-2.ensures c.put_row-self-2.ensures
