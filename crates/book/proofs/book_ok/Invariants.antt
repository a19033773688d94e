use Prim.Native.Nat.{◌-◌}
use lib.ListN.{length}
use Rattle.book.specs.Ensures.{Decides}
use Rattle.book.proofs.book_ok.Given as goal

abbrev pub invariant-loop-at : goal.invariant-loop-at
invariant-loop-at l = Decides l.b l.at

abbrev pub decreases-loop-at : goal.decreases-loop-at
decreases-loop-at l = length l.b - l.at
