-- `price_line::meanings::day_in` meets its contract.
use Rattle.price_line.proofs.MeaningLaws.{day_means}
use Rattle.price_line.proofs.meanings.day_in.Goals as goal

pub returns : goal.returns
returns c = day_means c.requires _ c.date_in.ensures
