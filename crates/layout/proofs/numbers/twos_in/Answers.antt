-- `layout::numbers::twos_in` meets its contract: from 0 up by `twos_low`, below 0 by `twos_high`.
-- ---- from 0 up
use native.Mathlib.Omega.{arith}
use lib.IntN.{ℤ, pos, negsuc, ◌-ℤ◌}
use lib.Signed.{◌≤ℤ◌, ◌<ℤ◌}
use mir.Syntax.{w64}
use mir.Val.{SFits}
use mir.ValLaws.{to_z-of_z}
use Rattle.integers.proofs.Signed.{le_z_true, le_z_false, non_neg_lem, abs64, flip_fits}
use Rattle.layout.proofs.StoreLaws.{twos_low, twos_high, twos_room}
use Rattle.layout.proofs.numbers.twos_in.Goals as goal

not_below : (c : goal.Then-v-ge0) → pos 0 ≤ℤ c.args.v
not_below c = le_z_true (pos 0) c.args.v (simp (to_z-of_z, c.ranges.v) at c.if-v-ge0.true)

pub overflow_cast-result : goal.overflow_cast-result
overflow_cast-result c =
    let v = c.args.v in
    simp (to_z-of_z, c.ranges.v) (non_neg_lem v (not_below c), record { fits = omega (arith, abs64 v c.ranges.v) })

pub returns-then-v-ge0 : goal.returns-then-v-ge0
returns-then-v-ge0 c = simp (to_z-of_z, c.ranges.v) (twos_low c.args.v c.args.top (not_below c) c.requires)

-- ---- below 0: -1 - v is from 0 up
module _ (c : goal.Else-v-ge0) where
  abbrev flipped : ℤ
  flipped = negsuc 0 -ℤ c.args.v

  below : c.args.v <ℤ pos 0
  below = le_z_false (pos 0) c.args.v (simp (to_z-of_z, c.ranges.v) at c.if-v-ge0.false)

  flips : (pos 0 ≤ℤ flipped) × SFits w64 flipped
  flips = flip_fits c.args.v below c.ranges.v

pub overflow_sub-result : goal.overflow_sub-result
overflow_sub-result c = simp (to_z-of_z, c.ranges.v) (flips c).1

pub overflow_cast-result-else-v-ge0 : goal.overflow_cast-result-else-v-ge0
overflow_cast-result-else-v-ge0 c = simp (to_z-of_z, c.ranges.v, (flips c).1) (non_neg_lem (flipped c) (flips c).0, record { fits = omega (arith, abs64 (flipped c) (flips c).1) })

pub overflow_sub-result-else-v-ge0 : goal.overflow_sub-result-else-v-ge0
overflow_sub-result-else-v-ge0 c = simp (to_z-of_z, c.ranges.v, (flips c).1) (twos_room c.args.v c.args.top (below c) c.requires)

pub returns-else-v-ge0 : goal.returns-else-v-ge0
returns-else-v-ge0 c = simp (to_z-of_z, c.ranges.v, (flips c).1) (twos_high c.args.v c.args.top (below c) c.requires)
