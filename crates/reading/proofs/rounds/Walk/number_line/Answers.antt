-- `reading::rounds::Walk::number_line` meets its contract.
use Rattle.reading.proofs.MoveLaws.{move_skip, some_row, row_room, row_due, move_had}
use Rattle.reading.proofs.rounds.Walk.number_line.Goals as goal

pub returns-then-brings_nothing : goal.returns-then-brings_nothing
returns-then-brings_nothing c = move_skip c.requires.cut_at c.requires.ready c.brings_nothing.ensures c.if-brings_nothing.true

pub unreachable-requires : goal.unreachable-requires
unreachable-requires c = some_row c.requires.cut_at c.requires.ready c.brings_nothing.ensures c.if-brings_nothing.false c.in_default.ensures

pub is_due-requires : goal.is_due-requires
is_due-requires c = row_room c.requires.cut_at c.requires.ready c.brings_nothing.ensures c.if-brings_nothing.false c.in-Some.ensures

pub number_row-requires : goal.number_row-requires
number_row-requires c = row_due c.requires.cut_at c.requires.ready c.brings_nothing.ensures c.if-brings_nothing.false c.in-Some.ensures c.is_due.ensures c.if-is_due.true

pub behind-self-requires : goal.behind-self-requires
behind-self-requires c = row_room c.requires.cut_at c.requires.ready c.brings_nothing.ensures c.if-brings_nothing.false c.in-Some.ensures

pub returns-else-is_due : goal.returns-else-is_due
returns-else-is_due c = move_had c.requires.cut_at c.requires.ready c.brings_nothing.ensures c.if-brings_nothing.false c.in-Some.ensures c.is_due.ensures c.if-is_due.false c.behind-self.ensures
