-- Whole numbers of steps, as code comes to them: down and up by the step of the last part, and the nearest by what is left over, counted from zero
-- either way.
use Prim.Native.Nat.{ℕ, zero, suc, ◌+◌, ◌*◌, ◌/◌, ◌<◌, ◌≤◌}
use mathlib.Core.Path.{◌≡◌, refl, sym, ap, ◌∙◌}
use native.Mathlib.Nat.{mul-zero, div-le_self}
use native.Mathlib.Omega.{arith}
use lib.IntN.{ℤ, pos, negsuc, neg_ℤ, nat_abs, ◌+ℤ◌, ◌-ℤ◌, ◌*ℤ◌, +ℤ_one, -ℤ_one, +ℤ_idl, +ℤ_comm, suc_ℤ-*ℤ}
use lib.Signed.{◌≤ℤ◌, ◌<ℤ◌}
use mir.Syntax.{w64}
use mir.Val.{SFits}
use Rattle.integers.specs.Floor.{floor}
use Rattle.integers.proofs.Signed.{parts, up_mul, dn_mul, up, dn, le_in, lt_in, le_of, lt_of, fits64, abs_add, abs_mul, abs_neg, abs_parts, abs_le, sum_parts, sub_parts, mul_pos_pos, taken64, flip_fits, up64}
use Rattle.integers.proofs.FloorLaws.{floor_le, floor_lt, floor_abs, floor_unique, floor_pos, floor_neg}
use Rattle.rules.specs.Amounts.{ceiling, nearest}
use Rattle.amounts.specs.Ensures.{InSteps, from_half_on}

-- ---- down: below zero the step of the last part counts

-- all parts but the last
left_out : (z : ℤ) → z <ℤ pos 0 → pos 0 ≤ℤ (negsuc 0 -ℤ z)
left_out z h = le_of (omega (arith, lt_in h, sub_parts (negsuc 0) z))

turned_one : (q : ℕ) → pos 0 -ℤ pos q -ℤ pos 1 ≡ negsuc 0 -ℤ pos q
turned_one q = ap (λ (x : ℤ). x -ℤ pos 1) (+ℤ_idl (neg_ℤ (pos q))) ∙ +ℤ_comm (neg_ℤ (pos q)) (negsuc 0)

module _ (z : ℤ) (n : ℕ) (below : z <ℤ pos 0) where
  abbrev others : ℕ
  others = nat_abs (negsuc 0 -ℤ z) / n

  pub others_are : floor (negsuc 0 -ℤ z) n ≡ pos others
  others_are = sym (floor_pos (negsuc 0 -ℤ z) n (left_out z below))

  pub down_below : pos 0 -ℤ floor (negsuc 0 -ℤ z) n -ℤ pos 1 ≡ floor z n
  down_below = ap (λ (x : ℤ). pos 0 -ℤ x -ℤ pos 1) others_are ∙ turned_one others ∙ floor_neg z n below

  others_few : SFits w64 z → others < 9223372036854775808
  others_few f = omega (arith, div-le_self (nat_abs (negsuc 0 -ℤ z)) n, up64 (negsuc 0 -ℤ z) (left_out z below) (flip_fits z below f).1)

  pub others_fit : SFits w64 z → SFits w64 (pos 0 -ℤ floor (negsuc 0 -ℤ z) n)
  others_fit f = rw others_are (taken64 (pos 0) others tt (others_few f))

  pub last_fits : SFits w64 z → SFits w64 (pos 0 -ℤ floor (negsuc 0 -ℤ z) n -ℤ pos 1)
  last_fits f = rw others_are (rw turned_one (taken64 (negsuc 0) others tt (others_few f)))

-- ---- up: above zero the step of the last part counts

pub up_above : (z : ℤ) (n : ℕ) → pos 0 <ℤ z → floor (z -ℤ pos 1) n +ℤ pos 1 ≡ ceiling z n
unfolding ceiling floor
up_above (pos zero) n h = absurd (omega (arith, lt_in h))
up_above (pos (suc a)) n h = ap (λ (x : ℤ). floor x n +ℤ pos 1) (-ℤ_one (pos (suc a))) ∙ +ℤ_one (pos (a / n))
up_above (negsuc a) n h = absurd (omega (arith, lt_in h))

pub up_below : (z : ℤ) (n : ℕ) → pos 0 -ℤ floor (pos 0 -ℤ z) n ≡ ceiling z n
unfolding ceiling
up_below z n = +ℤ_idl (neg_ℤ (floor (pos 0 -ℤ z) n)) ∙ ap (λ (x : ℤ). neg_ℤ (floor x n)) (+ℤ_idl (neg_ℤ z))

-- ---- the nearest: of z parts, M are in full steps, and the rest is begun

module _ (M z : ℤ) (n : ℕ) (low : M ≤ℤ z) (high : z <ℤ (M +ℤ pos n)) where
  begun_in : nat_abs (z -ℤ M) ≤ n
  begun_in =
      abs_le (z -ℤ M) (omega (arith, lt_in high, sum_parts M (pos n), sub_parts z M)) (omega (arith, le_in low, sub_parts z M))

  full_low : (M *ℤ pos 2) ≤ℤ (z *ℤ pos 2 +ℤ pos n)
  full_low = le_of (simp (parts, mul-zero) (omega (arith, le_in low)))

  next_high : (z *ℤ pos 2 +ℤ pos n) <ℤ (M *ℤ pos 2 +ℤ pos (n * 2) +ℤ pos (n * 2))
  next_high = lt_of (simp (parts, mul-zero) (omega (arith, lt_in high, sum_parts M (pos n))))

  full_high : ((z -ℤ M) *ℤ pos 2) <ℤ pos n → (z *ℤ pos 2 +ℤ pos n) <ℤ (M *ℤ pos 2 +ℤ pos (n * 2))
  full_high h =
      let w : up (z -ℤ M) * 2 < n + dn (z -ℤ M) * 2 = omega (arith, simp (up_mul, dn_mul, mul-zero) at (lt_in h)) in
      lt_of (simp (parts, mul-zero) (omega (arith, sub_parts z M)))

  next_low : pos n ≤ℤ ((z -ℤ M) *ℤ pos 2) → (M *ℤ pos 2 +ℤ pos (n * 2)) ≤ℤ (z *ℤ pos 2 +ℤ pos n)
  next_low h =
      let w : n + dn (z -ℤ M) * 2 ≤ up (z -ℤ M) * 2 = omega (arith, simp (up_mul, dn_mul, mul-zero) at (le_in h)) in
      le_of (simp (parts, mul-zero) (omega (arith, sub_parts z M)))

module _ (z full : ℤ) (n : ℕ) (some : 0 < n) (is : full ≡ floor z n) where
  low : (full *ℤ pos n) ≤ℤ z
  low = rw is (floor_le z n some)

  high : z <ℤ (full *ℤ pos n +ℤ pos n)
  high = rw is (floor_lt z n some)

  pub full_in : nat_abs (full *ℤ pos n) ≤ nat_abs z + n
  full_in =
      let M = full *ℤ pos n in
      abs_le M (omega (arith, le_in low, abs_parts z)) (omega (arith, lt_in high, sum_parts M (pos n), abs_parts z))

  pub left_in : nat_abs (z -ℤ full *ℤ pos n) ≤ n
  left_in = begun_in (full *ℤ pos n) z n low high

  pub half_full : ((z -ℤ full *ℤ pos n) *ℤ pos 2) <ℤ pos n → full ≡ from_half_on z n
  half_full h =
      floor_unique (z *ℤ pos 2 +ℤ pos n) full (n * 2) (omega arith)
      (rw mul_pos_pos (full_low (full *ℤ pos n) z n low high))
      (rw mul_pos_pos (full_high (full *ℤ pos n) z n low high h))

  next_is : (full +ℤ pos 1) *ℤ pos (n * 2) ≡ full *ℤ pos n *ℤ pos 2 +ℤ pos (n * 2)
  next_is = rw (+ℤ_one, suc_ℤ-*ℤ, mul_pos_pos)

  pub half_next : pos n ≤ℤ ((z -ℤ full *ℤ pos n) *ℤ pos 2) → full +ℤ pos 1 ≡ from_half_on z n
  half_next h =
      floor_unique (z *ℤ pos 2 +ℤ pos n) (full +ℤ pos 1) (n * 2) (omega arith)
      (rw next_is (next_low (full *ℤ pos n) z n low high h))
      (rw next_is (next_high (full *ℤ pos n) z n low high))

-- ---- from zero up, and below zero

pub nearest_above : (z : ℤ) (n : ℕ) → pos 0 ≤ℤ z → from_half_on z n ≡ nearest z n
unfolding nearest floor
nearest_above (pos a) n h = refl
nearest_above (negsuc a) n h = absurd h.le

-- as far below zero as above it
turned : (z : ℤ) (n : ℕ) → z <ℤ pos 0 → neg_ℤ (from_half_on (neg_ℤ z) n) ≡ nearest z n
unfolding nearest floor
turned (pos a) n h = absurd (omega (arith, lt_in h))
turned (negsuc a) n h = refl

pub nearest_below : (z : ℤ) (n : ℕ) → z <ℤ pos 0 → pos 0 -ℤ from_half_on (pos 0 -ℤ z) n ≡ nearest z n
nearest_below z n h = +ℤ_idl (neg_ℤ (from_half_on (pos 0 -ℤ z) n)) ∙ (ap (λ (x : ℤ). neg_ℤ (from_half_on x n)) (+ℤ_idl (neg_ℤ z)) ∙ turned z n h)

module _ (z : ℤ) (n : ℕ) (ok : InSteps z n) where
  pub turned_in : InSteps (pos 0 -ℤ z) n
  turned_in = record { some = ok.some; few = ok.few; z_in = omega (arith, abs_add (pos 0) (neg_ℤ z), abs_neg z, ok.z_in) }

  pub turned_fits : SFits w64 (pos 0 -ℤ z)
  turned_fits = fits64 (pos 0 -ℤ z) (omega (arith, turned_in.z_in))

  pub half_fits : SFits w64 (pos 0 -ℤ from_half_on z n)
  half_fits =
      let x = z *ℤ pos 2 +ℤ pos n in
      fits64 (pos 0 -ℤ from_half_on z n)
      (omega (arith, abs_add (pos 0) (neg_ℤ (from_half_on z n)), abs_neg (from_half_on z n), floor_abs x (n * 2), abs_add (z *ℤ pos 2) (pos n), abs_mul z (pos 2), ok.z_in, ok.few))
