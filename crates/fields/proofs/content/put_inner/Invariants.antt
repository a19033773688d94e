-- `fields::content::put_inner` meets its contract: what was copied, in front of what is read from here, is the text.
use Rattle.fields.proofs.ContentLaws.{Copying}
use Rattle.fields.proofs.content.put_inner.Given as goal

abbrev pub invariant-loop-n : goal.invariant-loop-n
invariant-loop-n l = Copying l.line l.from l.count l.initial.out l.at l.out l.i l.n
