-- `lookup::roundings::put_spots` meets its contract: spot after spot, by the laws `replace_..`.
use Rattle.lookup.proofs.LookupLaws.{Replacing}
use Rattle.lookup.proofs.roundings.put_spots.Given as goal

abbrev pub invariant-loop-i : goal.invariant-loop-i
invariant-loop-i l = Replacing l.initial.spots l.numbers l.number l.at l.spots l.i
