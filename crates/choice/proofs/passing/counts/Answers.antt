-- `choice::passing::counts` meets its contract: by the law `stands_is`.
use Rattle.choice.proofs.PassingLaws.{stands_is}
use Rattle.choice.proofs.passing.counts.Goals as goal

pub returns : goal.returns
returns c = stands_is c.args.row c.args.date.0 c.is_percent_base.ensures c.holds.ensures
