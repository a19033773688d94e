-- `picks::held::held_in` meets its contract: the rows in hand so far, and what the slots left choose, by the laws `hold_..`.
use Prim.Native.Nat.{◌-◌}
use Rattle.picks.specs.Held.{Holding}
use Rattle.picks.proofs.held.held_in.Given as goal

abbrev pub invariant-loop-i : goal.invariant-loop-i
invariant-loop-i l = Holding l.slots l.names l.ats l.places l.numbers l.n l.i l.place

abbrev pub decreases-loop-i : goal.decreases-loop-i
decreases-loop-i l = 99 - l.i
