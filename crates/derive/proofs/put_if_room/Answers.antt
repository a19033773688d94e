-- `derive::put_if_room` meets its contract: 7 by `no_room`, the rest by `written_out`.
use Rattle.derive.proofs.PutLaws.{no_room, written_out}
use Rattle.derive.proofs.put_if_room.Goals as goal

pub returns-then-out-question : goal.returns-then-out-question
returns-then-out-question c = no_room c.requires c.names_size-size.ensures c.if-out-question.true (record { is = c.refused.ensures })

pub returns : goal.returns
returns c = written_out c.requires c.names_size-size.ensures c.if-out-question.false c.put_question-length.ensures
