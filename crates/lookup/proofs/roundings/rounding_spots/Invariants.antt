-- `lookup::roundings::rounding_spots` meets its contract: each number is found, or the records left have what all have, by the laws `placing_..`.
use Prim.Native.Nat.{◌-◌}
use lib.ListN.{length}
use Rattle.lookup.specs.Roundings.{Placing}
use Rattle.lookup.proofs.roundings.rounding_spots.Given as goal

abbrev pub invariant-loop-at : goal.invariant-loop-at
invariant-loop-at l = Placing l.b l.from l.numbers (length l.numbers) l.spots l.low l.at

abbrev pub decreases-loop-at : goal.decreases-loop-at
decreases-loop-at l = length l.b - l.at
