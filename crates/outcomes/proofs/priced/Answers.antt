-- `outcomes::priced` meets its contract: the same is asked on that day, within the same window.
use Rattle.outcomes.proofs.OutcomeLaws.{asked_then, priced_for}
use Rattle.outcomes.proofs.priced.Goals as goal

pub outcome_on-requires-clause-asked : goal.outcome_on-requires-clause-asked
outcome_on-requires-clause-asked c = asked_then c.on.ensures c.requires.asked

pub returns : goal.returns
returns c = priced_for c.on.ensures c.outcome_on.ensures
