-- `price_line::meanings::number_in` meets its contract.
use Rattle.price_line.proofs.MeaningLaws.{number_means}
use Rattle.price_line.proofs.meanings.number_in.Goals as goal

pub returns : goal.returns
returns c = number_means c.requires _ c.quantity_in.ensures
