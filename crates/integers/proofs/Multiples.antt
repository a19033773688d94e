-- Multiples of a natural number: they lie in the order of their numbers, and different ones at least that number apart.
use Prim.Native.Nat.{ℕ}
use mathlib.Core.Path.{◌≡◌, refl, ap}
use mathlib.Core.Logic.{◌⊎◌, inl, inr, ⊎_elim}
use mathlib.Core.Bool.{Bool, true, false}
use native.Mathlib.Nat.{mul-zero, add-mul, suc-mul, mul-le-mul_right}
use native.Mathlib.Omega.{arith}
use lib.IntN.{ℤ, pos, ◌+ℤ◌, ◌*ℤ◌}
use lib.Signed.{◌≤ℤ◌, ◌<ℤ◌, le_z}
use Rattle.integers.proofs.Signed.{parts, eq_parts, le_in, le_of, lt_in, le_z_true, le_z_false}

pub mul_mono : {p q : ℤ} (n : ℕ) → p ≤ℤ q → (p *ℤ pos n) ≤ℤ (q *ℤ pos n)
mul_mono {p} {q} n h = le_of (simp (parts, mul-zero) (omega (arith, simp add-mul at (mul-le-mul_right n (le_in h)))))

pub mul_gap : {p q : ℤ} (n : ℕ) → p <ℤ q → (p *ℤ pos n +ℤ pos n) ≤ℤ (q *ℤ pos n)
mul_gap {p} {q} n h = le_of (simp (parts, mul-zero) (omega (arith, simp (add-mul, suc-mul) at (mul-le-mul_right n (lt_in h)))))

compared : (p q : ℤ) (a b : Bool) → le_z q p ≡ a → le_z p q ≡ b → (p <ℤ q) ⊎ ((p ≡ q) ⊎ (q <ℤ p))
compared p q false b e f = inl (le_z_false q p e)
compared p q true false e f = inr (inr (le_z_false p q f))
compared p q true true e f = inr (inl (eq_parts p q (omega (arith, le_in (le_z_true q p e), le_in (le_z_true p q f)))))

-- K is a gap of D below M, the same, or a gap above
abbrev pub Apart : ℕ → ℤ → ℤ → Type 0
Apart D K M = ((K +ℤ pos D) ≤ℤ M) ⊎ ((K ≡ M) ⊎ ((M +ℤ pos D) ≤ℤ K))

pub apart : (n : ℕ) (p q : ℤ) → Apart n (p *ℤ pos n) (q *ℤ pos n)
apart n p q =
    ⊎_elim (λ h. inl (mul_gap n h)) (λ w. inr (⊎_elim (λ e. inl (ap (λ (k : ℤ). k *ℤ pos n) e)) (λ h. inr (mul_gap n h)) w))
    (compared p q (le_z q p) (le_z p q) refl refl)
