-- What is read of a refused call is the number and zeros, by computation.
use mathlib.Core.Path.{refl}
use Rattle.rules.specs.Text.{shown}
use Rattle.rules.proofs.refused.TextAnswerFromRefusal.from.Goals as goal

pub returns : goal.returns
unfolding shown
returns c = rw c.from.ensures refl
