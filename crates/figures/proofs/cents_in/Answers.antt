-- `figures::cents_in` meets its contract.
use Rattle.figures.proofs.AmountLaws.{cents_are}
use Rattle.figures.proofs.cents_in.Goals as goal

pub returns : goal.returns
returns c = cents_are c.cut_at-p.ensures c.behind_point-d.ensures _ c.cents_from.ensures
