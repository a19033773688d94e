-- `quote::outcome_on` meets its contract: the rows can be judged (`slice_judge`), and what is said of them is the day's outcome (`outcome_for`).
use Rattle.quote.proofs.OutcomeLaws.{slice_judge, outcome_for}
use Rattle.quote.proofs.outcome_on.Goals as goal

pub judge-verdict-requires : goal.judge-verdict-requires
judge-verdict-requires c = slice_judge c.picks_on-picks.ensures c.requires.asked c.as_slice.ensures

pub returns : goal.returns
returns c = outcome_for c.picks_on-picks.ensures c.requires.asked c.as_slice.ensures c.judge-verdict.ensures
