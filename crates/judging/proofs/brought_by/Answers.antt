-- `judging::brought_by` meets its contract.
use Rattle.fields.proofs.GivenLaws.{none_with}
use Rattle.judging.proofs.JudgeLaws.{brings_none, brings_bad, brings_row}
use Rattle.judging.proofs.brought_by.Goals as goal

pub returns-then-brings_nothing : goal.returns-then-brings_nothing
returns-then-brings_nothing c = brings_none c.args.line.now c.brings_nothing.ensures c.if-brings_nothing.true

pub returns-in_err-row : goal.returns-in_err-row
returns-in_err-row c = none_with _ _ c.from_residual.ensures (brings_bad c.args.line.now c.brings_nothing.ensures c.if-brings_nothing.false c.in_err-row.ensures)

pub returns : goal.returns
returns c = brings_row c.args.line.now c.brings_nothing.ensures c.if-brings_nothing.false c.in_ok-row.ensures c.record_size.ensures
