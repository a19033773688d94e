-- "Halves of a discount": where the commercial way differs from one that sends every half to the greater number, which it did before. That is only at
-- halves below zero, and by one step.
use Prim.Native.Nat.{ℕ, zero, suc, ◌+◌, ◌*◌, ◌/◌, ◌%◌, ◌-◌, ◌<◌, ◌≤◌}
use mathlib.Core.Path.{◌≡◌, refl, sym, ap, ◌∙◌}
use native.Mathlib.Nat.{mul-zero, zero-mul, suc-mul, mul-le-mul_right, lt-div-mul-add, div-mul-le_self, div-add-mod', le_of_suc-le-suc, lt_of_mul-lt-mul_right}
use native.Mathlib.Omega.{arith}
use lib.IntN.{ℤ, pos, negsuc, neg_ℤ, nat_abs, ◌+ℤ◌, ◌*ℤ◌, +ℤ_one, +ℤ_assoc, +ℤ_comm, suc_ℤ-*ℤ}
use mathlib.Core.Logic.{◌⊎◌, inl, inr, ⊎_elim}
use native.Mathlib.Decide.{ℕ_discrete}
use lib.Signed.{◌<ℤ◌}
use Rattle.integers.specs.Floor.{floor}
use Rattle.integers.proofs.Signed.{parts, le_of, lt_of, lt_in}
use Rattle.integers.proofs.FloorLaws.{floor_unique}
use Rattle.rules.specs.Amounts.{nearest, steps_by, plus, multiple_by, rounded}
use Rattle.rules.specs.declared.Way.TheVariants.{Commercial}
use Rattle.rules.specs.declared.Rounding.{Rounding}
use Rattle.rules.specs.declared.Fraction.{Fraction}

-- the whole number nearest to z / n, every half to the greater
abbrev pub halves_to_the_greater : ℤ → ℕ → ℤ
halves_to_the_greater z n = floor (z *ℤ pos 2 +ℤ pos n) (n * 2)

-- z / n lies below zero, halfway between two whole numbers
pub record HalfBelowZero (z : ℤ) (n : ℕ) : Type 0 where
  pub below : z <ℤ pos 0
  pub halfway : (nat_abs z * 2 + n) % (n * 2) ≡ 0

-- m parts below zero, as they went before: a half would be the lesser distance
abbrev lesser : ℕ → ℕ → ℕ
lesser m n = (m * 2 + n - 1) / (n * 2)

before_below : (a n : ℕ) → 0 < n → halves_to_the_greater (negsuc a) n ≡ neg_ℤ (pos (lesser (suc a) n))
before_below a n p =
    let q = lesser (suc a) n in
    let low = div-mul-le_self (suc a * 2 + n - 1) (n * 2) in
    let high = lt-div-mul-add {a = suc a * 2 + n - 1} {b = n * 2} (omega arith) in
    sym (floor_unique (negsuc a *ℤ pos 2 +ℤ pos n) (neg_ℤ (pos q)) (n * 2) (omega arith)
    (le_of (simp (parts, mul-zero, zero-mul) (omega (arith, low, high))))
    (lt_of (simp (parts, mul-zero, zero-mul) (omega (arith, low, high)))))

-- one part less: a part of a further step may be all that there was of it
quotients : (t d q r : ℕ) → r * d ≤ t → t < q * d + d → r ≤ q
quotients t d q r low high = le_of_suc-le-suc (lt_of_mul-lt-mul_right d {m = r} {n = suc q} (rw suc-mul (omega (arith, low, high))))

module _ (t d : ℕ) (p : 0 < d) where
  here_low : t / d * d ≤ t
  here_low = div-mul-le_self t d

  here_high : t < t / d * d + d
  here_high = lt-div-mul-add {a = t} {b = d} p

  less_low : (t - 1) / d * d ≤ t - 1
  less_low = div-mul-le_self (t - 1) d

  less_high : t - 1 < (t - 1) / d * d + d
  less_high = lt-div-mul-add {a = t - 1} {b = d} p

  split : t ≡ t / d * d + t % d
  split = omega (arith, div-add-mod' t d)

  one_more : 0 < t → t % d ≡ 0 → t / d ≡ suc ((t - 1) / d)
  one_more s h =
      let u : t / d ≤ suc ((t - 1) / d) = quotients (t / d * d) d (suc ((t - 1) / d)) (t / d) (omega arith) (rw suc-mul (omega (arith, less_high, split))) in
      let v : suc ((t - 1) / d) ≤ t / d = quotients (t - 1 + d) d (t / d) (suc ((t - 1) / d)) (rw suc-mul (omega (arith, less_low))) (omega (arith, split)) in
      omega (arith, u, v)

  no_more : 0 < t % d → t / d ≡ (t - 1) / d
  no_more h =
      let u : t / d ≤ (t - 1) / d = quotients (t - 1) d ((t - 1) / d) (t / d) (omega (arith, split)) less_high in
      let v : (t - 1) / d ≤ t / d = quotients t d (t / d) ((t - 1) / d) (omega (arith, less_low)) here_high in
      omega (arith, u, v)

-- ---- whole numbers of steps

-- from zero up nothing has changed
same_above : (a n : ℕ) → nearest (pos a) n ≡ halves_to_the_greater (pos a) n
unfolding nearest floor
same_above a n = refl

module _ (a n : ℕ) (p : 0 < n) where
  below_by : Dec ((suc a * 2 + n) % (n * 2) ≡ 0) → HalfBelowZero (negsuc a) n ⊎ (nearest (negsuc a) n ≡ halves_to_the_greater (negsuc a) n)
  unfolding nearest
  below_by (yes h) = inl (record { below = lt_of (omega arith); halfway = h })
  below_by (no h) =
      inr (ap (λ (m : ℕ). neg_ℤ (pos m)) (no_more (suc a * 2 + n) (n * 2) (omega arith) (nonzero _ h)) ∙ sym (before_below a n p))
    where
      nonzero : (m : ℕ) → (m ≡ 0 → ⊥) → 0 < m
      nonzero zero k = absurd (k refl)
      nonzero (suc m) k = omega arith

  half_below : (suc a * 2 + n) % (n * 2) ≡ 0 → nearest (negsuc a) n +ℤ pos 1 ≡ halves_to_the_greater (negsuc a) n
  unfolding nearest
  half_below h =
      ap (λ (m : ℕ). neg_ℤ (pos m) +ℤ pos 1) (one_more (suc a * 2 + n) (n * 2) (omega arith) (omega arith) h)
      ∙ (one_up (lesser (suc a) n) ∙ sym (before_below a n p))
    where
      one_up : (k : ℕ) → negsuc k +ℤ pos 1 ≡ neg_ℤ (pos k)
      one_up zero = +ℤ_one (negsuc 0)
      one_up (suc k) = +ℤ_one (negsuc (suc k))

-- at a half below zero it is one less
pub one_less : (z : ℤ) (n : ℕ) → 0 < n → HalfBelowZero z n → nearest z n +ℤ pos 1 ≡ halves_to_the_greater z n
one_less (pos a) n p h = absurd (omega (arith, lt_in h.below))
one_less (negsuc a) n p h = half_below a n p h.halfway

-- and everywhere else it is the same
pub else_same : (z : ℤ) (n : ℕ) → 0 < n → HalfBelowZero z n ⊎ (nearest z n ≡ halves_to_the_greater z n)
else_same (pos a) n p = inr (same_above a n)
else_same (negsuc a) n p = below_by a n p (ℕ_discrete ((suc a * 2 + n) % (n * 2)) 0)

-- ---- amounts

-- an amount as the commercial way rounded it before, the step and all cents added as now
abbrev pub rounded_before : Rounding → Fraction → ℤ
rounded_before r x = halves_to_the_greater (plus x r.before).top (x.bottom * r.step) *ℤ pos r.step +ℤ r.after.0

-- the amount with the cents added before is halfway between two multiples of the step, below zero
abbrev pub HalfAmount : Rounding → Fraction → Type 0
HalfAmount r x = HalfBelowZero (plus x r.before).top (x.bottom * r.step)

module _ (r : Rounding) (x : Fraction) (way : r.way ≡ Commercial) (p : 0 < x.bottom) (q : 0 < r.step) where
  parts_pos : 0 < x.bottom * r.step
  parts_pos = omega (arith, mul-le-mul_right r.step p)

  is_nearest : rounded r x ≡ nearest (plus x r.before).top (x.bottom * r.step) *ℤ pos r.step +ℤ r.after.0
  unfolding rounded multiple_by steps_by
  is_nearest = rw way

  -- there it is one step less than before
  pub step_less : HalfAmount r x → rounded r x +ℤ pos r.step ≡ rounded_before r x
  step_less h =
      let z = (plus x r.before).top in
      let n = x.bottom * r.step in
      rw (is_nearest, ← one_less z n parts_pos h, +ℤ_one, suc_ℤ-*ℤ) (swap (nearest z n *ℤ pos r.step) r.after.0 (pos r.step))
    where
      swap : (a b c : ℤ) → a +ℤ b +ℤ c ≡ a +ℤ c +ℤ b
      swap a b c = +ℤ_assoc a b c ∙ (ap (λ (z : ℤ). a +ℤ z) (+ℤ_comm b c) ∙ sym (+ℤ_assoc a c b))

  -- and everywhere else what it was
  pub amount_stays : HalfAmount r x ⊎ (rounded r x ≡ rounded_before r x)
  amount_stays =
      let n = x.bottom * r.step in
      ⊎_elim inl (λ e. inr (is_nearest ∙ ap (λ (k : ℤ). k *ℤ pos r.step +ℤ r.after.0) e)) (else_same (plus x r.before).top n parts_pos)
