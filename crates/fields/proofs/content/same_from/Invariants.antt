-- `fields::content::same_from` meets its contract: what is left of both texts decides.
use Rattle.fields.proofs.SameLaws.{Comparing}
use Rattle.fields.proofs.content.same_from.Given as goal

abbrev pub invariant-loop-n : goal.invariant-loop-n
invariant-loop-n l = Comparing l.line l.f l.other l.g l.i l.j l._n l.ok
