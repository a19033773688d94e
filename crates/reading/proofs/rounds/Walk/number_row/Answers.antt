-- `reading::rounds::Walk::number_row` meets its contract.
use Rattle.reading.proofs.MoveLaws.{due_put, move_blank}
use Rattle.reading.proofs.rounds.Walk.number_row.Goals as goal

pub put_row-self-requires : goal.put_row-self-requires
put_row-self-requires c = due_put c.requires

pub returns-then-row-eq0 : goal.returns-then-row-eq0
returns-then-row-eq0 c = move_blank c.requires c.if-row-eq0.true c.put_row-self.ensures
