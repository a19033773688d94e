-- `stretches::asked::stretches_in` meets its contract: the question asks so, the days of change are priced, and the marks make all
-- other days steady, by the law `asked_lists`.
use Rattle.stretches.proofs.AskedLaws.{asked_lists}
use Rattle.stretches.proofs.asked.stretches_in.Goals as goal

pub returns : goal.returns
returns c =
    let asked = c.requires in
    asked_lists c.of-asking.ensures asked.windows asked.dates asked.dates_nonzero c.marks_of-marks.ensures c.outcomes_of-priced.ensures c.stretches_of.ensures
