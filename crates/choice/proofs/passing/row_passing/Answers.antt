-- `choice::passing::row_passing` meets its contract: by the laws `row_past`, `row_nowhere` and `row_passes`.
use Rattle.choice.proofs.PassingLaws.{row_past, row_nowhere, row_passes}
use Rattle.choice.proofs.passing.row_passing.Goals as goal

pub returns-then-not-counts : goal.returns-then-not-counts
returns-then-not-counts c = row_past _ _ _ _ _ c.counts.ensures c.if-not-counts.true

pub returns-in_err-slot : goal.returns-in_err-slot
returns-in_err-slot c = rw c.from_residual.ensures (row_nowhere _ _ c.in_err-slot.ensures)

pub returns : goal.returns
returns c = row_passes _ _ _ _ _ c.counts.ensures c.if-not-counts.false c.in_ok-slot.ensures c.placed.ensures
