-- `lookup::roundings::spots_among` meets its contract: each number is found, or the noted spots left have what all have, by the laws `among_..`.
use lib.ListN.{length}
use Rattle.lookup.specs.Roundings.{Among}
use Rattle.lookup.proofs.roundings.spots_among.Given as goal

abbrev pub invariant-loop-spot : goal.invariant-loop-spot
invariant-loop-spot l = Among l.b 5 l.noted (length l.noted) l.numbers (length l.numbers) l.spots l.spot-index
