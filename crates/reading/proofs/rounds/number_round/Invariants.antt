-- `reading::rounds::number_round` meets its contract: from each line on, what is left of the round comes to the same.
use Prim.Native.Nat.{◌+◌, ◌-◌}
use mathlib.Core.List.{[]}
use lib.ListN.{length}
use Rattle.rules.specs.Refusals.{over}
use Rattle.reading.specs.Rows.{rows_in, records_at}
use Rattle.reading.specs.Rounds.{Round}
use Rattle.reading.proofs.rounds.number_round.Given as goal

abbrev pub invariant-loop-at : goal.invariant-loop-at
invariant-loop-at l = Round l.file (over (records_at (l.c + 65535) [] (rows_in l.file)) l.initial.out) l.c l.out l.at l.walk

abbrev pub decreases-loop-at : goal.decreases-loop-at
decreases-loop-at l = length l.file + 1 - l.at
