-- `decimals::digits::digit_count` meets its contract: as many digits as were passed, and one more.
use Prim.Native.Nat.{◌-◌}
use Rattle.decimals.specs.Texts.{Counting}
use Rattle.decimals.proofs.digits.digit_count.Given as goal

abbrev pub invariant-loop-top : goal.invariant-loop-top
invariant-loop-top l = Counting l.n l.top l.k

abbrev pub decreases-loop-top : goal.decreases-loop-top
decreases-loop-top l = 11 - l.k
