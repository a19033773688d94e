-- `price_line::meanings::value_in` meets its contract.
use Rattle.price_line.proofs.MeaningLaws.{value_means}
use Rattle.price_line.proofs.meanings.value_in.Goals as goal

pub returns : goal.returns
returns c = value_means c.requires _ c.amount_in.ensures
