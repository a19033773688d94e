-- `reading::rounds::number_rows` meets its contract: each round gives numbers to more names, until none is left.
use Prim.Native.Nat.{◌+◌, ◌-◌}
use mathlib.Core.List.{[]}
use lib.ListN.{length}
use Rattle.reading.specs.Rows.{rows_in, met_after}
use Rattle.reading.specs.Rounds.{Numbering}
use Rattle.reading.proofs.rounds.number_rows.Given as goal

abbrev pub invariant-loop-c : goal.invariant-loop-c
invariant-loop-c l = Numbering l.file l.initial.out l.out l.c

abbrev pub decreases-loop-c : goal.decreases-loop-c
decreases-loop-c l = length (met_after [] (rows_in l.file)) + 1 - l.c
