-- `packaging::sums::add_up` meets its contract: the sums are those of the places gone through, by the laws `add_..`.
use lib.ListN.{length}
use Rattle.packaging.proofs.SumLaws.{Adding}
use Rattle.packaging.proofs.sums.add_up.Given as goal

abbrev pub invariant-loop-own : goal.invariant-loop-own
invariant-loop-own l = Adding l.b l.found.own l.found.any l.sums (length l.yielded)
