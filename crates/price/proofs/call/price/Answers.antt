-- `price::call::price` meets its contract: a refusal is shown as such, by `refused_shown`.
use Rattle.price.proofs.CallLaws.{refused_shown}
use Rattle.price.proofs.call.price.Goals as goal

pub returns-in-Err : goal.returns-in-Err
returns-in-Err c = refused_shown c.in-Err.ensures c.from.ensures
