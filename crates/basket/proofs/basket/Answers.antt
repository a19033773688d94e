-- `basket::basket` meets its contract: a refusal is shown as such, by `refused_shown`.
use Rattle.basket.proofs.CallLaws.{refused_shown}
use Rattle.basket.proofs.basket.Goals as goal

pub returns-in-Err : goal.returns-in-Err
returns-in-Err c = refused_shown _ _ _ c.in-Err.ensures c.from.ensures
