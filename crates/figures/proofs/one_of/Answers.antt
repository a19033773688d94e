-- `figures::one_of` meets its contract.
use native.Mathlib.Omega.{arith}
use Rattle.figures.proofs.LetterLaws.{letter_other}
use mathlib.Core.Path.{sym}
use Rattle.figures.proofs.one_of.Goals as goal

pub returns : goal.returns
returns c = letter_other c.args.letters.now c.args.s.now (omega arith) (sym c.if-contains.ensures.value)
