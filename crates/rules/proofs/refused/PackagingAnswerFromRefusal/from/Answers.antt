-- What is read of a refused call is the number and zeros, by computation.
use mathlib.Core.Path.{refl}
use Rattle.rules.specs.Packaging.{shown}
use Rattle.rules.proofs.refused.PackagingAnswerFromRefusal.from.Goals as goal

pub returns : goal.returns
unfolding shown
returns c = rw c.from.ensures refl
