-- `floor z d` is the one whole number q with q·d ≤ z < q·d + d, and how code comes to it.
use Prim.Native.Nat.{ℕ, suc, ◌+◌, ◌/◌, ◌<◌, ◌≤◌}
use mathlib.Core.Path.{◌≡◌, refl}
use native.Mathlib.Nat.{div-le_self, div-mul-le_self, lt-div-mul-add, suc-mul, mul-zero, zero-mul, add-mul, le_of_suc-le-suc, lt_of_mul-lt-mul_right}
use native.Mathlib.Omega.{arith}
use lib.IntN.{ℤ, pos, negsuc, nat_abs, ◌+ℤ◌, ◌-ℤ◌, ◌*ℤ◌}
use lib.Signed.{◌≤ℤ◌, ◌<ℤ◌}
use Rattle.integers.proofs.Signed.{parts, eq_parts, up, dn, lt_in, le_in, lt_of, le_of}
use Rattle.integers.specs.Floor.{floor}

-- what that means: floor z d is the one number q with q d ≤ z < q d + d
pub floor_le : (z : ℤ) (d : ℕ) → 0 < d → (floor z d *ℤ pos d) ≤ℤ z
unfolding floor
floor_le (pos a) d h = le_of (simp (parts, mul-zero, zero-mul) (omega (arith, div-mul-le_self a d)))
floor_le (negsuc a) d h = le_of (simp (parts, mul-zero, zero-mul, suc-mul) (omega (arith, lt-div-mul-add {a = a} h)))

pub floor_lt : (z : ℤ) (d : ℕ) → 0 < d → z <ℤ (floor z d *ℤ pos d +ℤ pos d)
unfolding floor
floor_lt (pos a) d h = lt_of (simp (parts, mul-zero, zero-mul) (omega (arith, lt-div-mul-add {a = a} h)))
floor_lt (negsuc a) d h = lt_of (simp (parts, mul-zero, zero-mul, suc-mul) (omega (arith, div-mul-le_self a d)))

-- it is the greatest number whose product with d is not above z
pub cancel_mul : (p q : ℤ) (d : ℕ) → (p *ℤ pos d) <ℤ (q *ℤ pos d +ℤ pos d) → p ≤ℤ q
cancel_mul p q d h =
    le_of (le_of_suc-le-suc (lt_of_mul-lt-mul_right d {m = up p + dn q} {n = suc (up q + dn p)} (simp (add-mul, suc-mul) (omega (arith, simp (parts, mul-zero, zero-mul) at (lt_in h))))))

pub floor_greatest : (z k : ℤ) (d : ℕ) → 0 < d → (k *ℤ pos d) ≤ℤ z → k ≤ℤ floor z d
floor_greatest z k d p h = cancel_mul k (floor z d) d (lt_of (omega (arith, le_in h, lt_in (floor_lt z d p))))

pub floor_unique : (z q : ℤ) (d : ℕ) → 0 < d → (q *ℤ pos d) ≤ℤ z → z <ℤ (q *ℤ pos d +ℤ pos d) → q ≡ floor z d
floor_unique z q d p h k =
    eq_parts q (floor z d) (omega (arith, le_in (floor_greatest z q d p h), le_in (cancel_mul (floor z d) q d (lt_of (omega (arith, le_in (floor_le z d p), lt_in k))))))

-- it is no further from zero
pub floor_abs : (z : ℤ) (d : ℕ) → nat_abs (floor z d) ≤ nat_abs z
unfolding floor
floor_abs (pos a) d = div-le_self a d
floor_abs (negsuc a) d = omega (arith, div-le_self a d)

-- how code comes to it: at a number that is not negative, and, by -1 - n, at one that is
pub floor_pos : (n : ℤ) (d : ℕ) → pos 0 ≤ℤ n → pos (nat_abs n / d) ≡ floor n d
unfolding floor
floor_pos (pos a) d h = refl
floor_pos (negsuc a) d h = absurd h.le

pub flip_neg : (a : ℕ) → negsuc 0 -ℤ negsuc a ≡ pos a
flip_neg a = eq_parts (negsuc 0 -ℤ negsuc a) (pos a) (simp parts (omega arith))

pub flip_pos : (a : ℕ) → negsuc 0 -ℤ pos a ≡ negsuc a
flip_pos a = eq_parts (negsuc 0 -ℤ pos a) (negsuc a) (simp parts (omega arith))

pub floor_neg : (n : ℤ) (d : ℕ) → n <ℤ pos 0 → negsuc 0 -ℤ pos (nat_abs (negsuc 0 -ℤ n) / d) ≡ floor n d
unfolding floor
floor_neg (pos a) d h = absurd (omega (arith, lt_in h))
floor_neg (negsuc a) d h = rw (flip_neg) (flip_pos (a / d))
