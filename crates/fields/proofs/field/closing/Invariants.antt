-- `fields::field::closing` meets its contract: up to each place the field is what was read, in front of what is read from there.
use Prim.Native.Nat.{◌-◌}
use lib.ListN.{length}
use Rattle.fields.proofs.QuoteLaws.{Inside}
use Rattle.fields.proofs.field.closing.Given as goal

abbrev pub invariant-loop-i : goal.invariant-loop-i
invariant-loop-i l = Inside l.line l.at l.n l.i

abbrev pub decreases-loop-i : goal.decreases-loop-i
decreases-loop-i l = length l.line - l.i
