-- `wanted::tell` meets its contract: name after name, by `telling_again`.
use lib.ListN.{length}
use Rattle.wanted.proofs.WalkLaws.{Telling}
use Rattle.wanted.proofs.tell.Given as goal

abbrev pub invariant-loop-j : goal.invariant-loop-j
invariant-loop-j l = Telling l.table.bytes.now l.table.names.now (length l.table.names.now) l.sightings.entries l.sightings.roundings l.all l.j
