-- `outcomes::block_from` meets its contract: what is shared from the first date to the last is shared on each between, by the law `block_made`.
use Rattle.outcomes.proofs.OutcomeLaws.{block_made}
use Rattle.outcomes.proofs.block_from.Goals as goal

pub returns : goal.returns
returns c = block_made _ _ _ _ _ c.requires.dates c.block_end-until.ensures c.on-first.ensures c.shared_for.ensures
