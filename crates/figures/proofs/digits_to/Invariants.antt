-- `figures::digits_to` meets its contract: the digits that are left, behind those of n, make the number.
use Rattle.figures.proofs.DigitLaws.{DigitsFrom}
use Rattle.figures.proofs.digits_to.Given as goal

abbrev pub invariant-loop-byte : goal.invariant-loop-byte
invariant-loop-byte l = DigitsFrom l.most l.s l.n l.byte-index
