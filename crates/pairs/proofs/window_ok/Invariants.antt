-- `pairs::window_ok` meets its contract: what was passed is tested, by the laws `window_..`, and the two counters go with the place.
use Rattle.pairs.proofs.PairLaws.{Testing}
use Rattle.pairs.proofs.window_ok.Given as goal

abbrev pub invariant-loop-i : goal.invariant-loop-i
invariant-loop-i l = Testing l.s l.from l.over l.gap l.ok l.i l.o l.g
