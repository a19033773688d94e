-- `price_line::meanings::capitals_in` meets its contract.
use Rattle.price_line.proofs.MeaningLaws.{capitals_mean}
use Rattle.price_line.proofs.meanings.capitals_in.Goals as goal

pub returns : goal.returns
returns c = capitals_mean c.requires _ c.currency_in.ensures
