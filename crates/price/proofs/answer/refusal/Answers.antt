-- `price::answer::refusal` meets its contract by computation.
use mathlib.Core.Path.{refl}
use Rattle.rules.specs.Price.{shown}
use Rattle.price.proofs.answer.refusal.Goals as goal

pub returns : goal.returns
unfolding shown
returns c = refl
