-- `decimals::digits::put_digits` meets its contract: the digits behind are stored, and those in front are those of what is left.
use Prim.Native.Nat.{◌+◌, ◌*◌, ◌%◌}
use Rattle.decimals.proofs.DigitLaws.{Filling}
use Rattle.decimals.proofs.digits.put_digits.Given as goal

abbrev pub invariant-loop-before : goal.invariant-loop-before
invariant-loop-before l = Filling l.initial.out l.at l.k l.n l.out l.left (l.at + (l.k % 2 + 2 * l.before))
