-- At a number from 0 up by `floor_pos`, and below 0, where -1 - n is divided, by `floor_neg`.
use Rattle.std.proofs.Common.{ℕ, ◌/◌, ◌<◌, w64, ℤ, pos, negsuc, ◌-ℤ◌, ◌≤ℤ◌, ◌<ℤ◌, arith}
use native.Mathlib.Nat.{div-le_self}
use lib.IntN.{nat_abs}
use mir.Val.{SFits}
use mir.ValLaws.{to_z-of_z, to_z_pos}
use Rattle.integers.proofs.Signed.{flip_fits, taken64, up64, le_z_true, le_z_false}
use Rattle.integers.proofs.FloorLaws.{floor_pos, floor_neg}
use Rattle.integers.proofs.floor_div.Goals as goal

-- ---- from 0 up
module _ (c : goal.Then-n-ge0) where
  from : pos 0 ≤ℤ c.args.n
  from = le_z_true (pos 0) c.args.n (simp (to_z-of_z, c.ranges.n) at c.if-n-ge0.true)

  small : nat_abs c.args.n / c.args.d < 9223372036854775808
  small = omega (arith, div-le_self (nat_abs c.args.n) c.args.d, up64 c.args.n from c.ranges.n)

-- ---- below 0: m is -1 - n, and q its quotient
module _ (c : goal.Else-n-ge0) where
  abbrev m : ℤ
  m = negsuc 0 -ℤ c.args.n

  abbrev q : ℕ
  q = nat_abs m / c.args.d

  below : c.args.n <ℤ pos 0
  below = le_z_false (pos 0) c.args.n (simp (to_z-of_z, c.ranges.n) at c.if-n-ge0.false)

  m_is : (pos 0 ≤ℤ m) × SFits w64 m
  m_is = flip_fits c.args.n below c.ranges.n

  q_small : q < 9223372036854775808
  q_small = omega (arith, div-le_self (nat_abs m) c.args.d, up64 m m_is.0 m_is.1)

  r_fits : SFits w64 (negsuc 0 -ℤ pos q)
  r_fits = taken64 (negsuc 0) q tt q_small

pub returns-then-n-ge0 : goal.returns-then-n-ge0
returns-then-n-ge0 c =
    let n = c.args.n in
    let d = c.args.d in
    simp (to_z-of_z, c.ranges.n, to_z_pos w64 (nat_abs n / d) (small c)) (floor_pos n d (from c))

pub returns-else-n-ge0 : goal.returns-else-n-ge0
returns-else-n-ge0 c =
    simp (to_z-of_z, c.ranges.n, (m_is c).1, to_z_pos w64 (q c) (q_small c), r_fits c) (floor_neg c.args.n c.args.d (below c))
