-- `derive::put_question` meets its contract: five pieces, one behind the other.
use Rattle.derive.proofs.PutLaws.{question_put}
use Rattle.derive.proofs.put_question.Goals as goal

pub returns : goal.returns
returns c = question_put c.requires.fitting c.requires.question_room c.put_four.ensures c.put_bytes-count.ensures c.put_run-first.ensures c.put_names-end.ensures c.put_bytes.ensures
