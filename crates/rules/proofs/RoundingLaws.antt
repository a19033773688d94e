-- "From rows to a total", rounding: what each way means in plain words of order and distance, and that the definition of specs/Amounts.antt gives
-- the one number that is meant.
use Prim.Native.Nat.{ℕ, suc, ◌+◌, ◌*◌, ◌/◌, ◌<◌, ◌≤◌}
use mathlib.Core.Path.{◌≡◌, refl, sym, ap, ◌∙◌}
use mathlib.Core.Logic.{◌⊎◌, inl, inr, ⊎_elim}
use mathlib.Core.Bool.{Bool, true, false}
use native.Mathlib.Nat.{mul-zero, zero-mul, add-mul, suc-mul, mul_comm, mul-le-mul_right, le_of_suc-le-suc, lt_of_mul-lt-mul_right, le_refl, mul_assoc, lt-div-mul-add, div-mul-le_self}
use native.Mathlib.Omega.{arith}
use lib.IntN.{ℤ, pos, negsuc, neg_ℤ, nat_abs, ◌+ℤ◌, ◌-ℤ◌, ◌*ℤ◌}
use lib.Signed.{◌≤ℤ◌, ◌<ℤ◌, le_z}
use Rattle.integers.specs.Floor.{floor}
use Rattle.integers.proofs.Multiples.{Apart, mul_mono, apart}
use Rattle.integers.proofs.Signed.{up, dn, parts, abs_add, abs_near, abs_mul, sum_parts, sub_parts, abs_le, abs_parts, eq_parts, le_in, le_of, lt_in, lt_of, mul_pos_pos, le_z_true, le_z_false}
use Rattle.integers.proofs.FloorLaws.{floor_le, floor_lt, cancel_mul}
use Rattle.rules.specs.Amounts.{ceiling, nearest_of, nearest, steps_by, plus, multiple_by, rounded}
use Rattle.rules.specs.declared.Way.{Way}
use Rattle.rules.specs.declared.Way.TheVariants.{Down, Up, Commercial}
use Rattle.rules.specs.declared.Rounding.{Rounding}
use Rattle.rules.specs.declared.Fraction.{Fraction}

-- ---- what is meant

-- m cents against the amount top / bottom: both are multiplied by the bottom
abbrev pub NotAbove : ℤ → Fraction → Type 0
NotAbove m x = (m *ℤ pos x.bottom) ≤ℤ x.top

abbrev pub NotBelow : ℤ → Fraction → Type 0
NotBelow m x = x.top ≤ℤ (m *ℤ pos x.bottom)

-- how far m cents are from it, either way
abbrev pub distance : ℤ → Fraction → ℕ
distance m x = nat_abs (m *ℤ pos x.bottom -ℤ x.top)

pub record MultipleOf (step : ℕ) (m : ℤ) : Type 0 where
  pub times : ℤ
  pub is : m ≡ times *ℤ pos step

-- down: of the multiples that are not above the amount, the greatest
pub record GreatestNotAbove (step : ℕ) (x : Fraction) (m : ℤ) : Type 0 where
  pub not_above : NotAbove m x
  pub greatest : (k : ℤ) → MultipleOf step k → NotAbove k x → k ≤ℤ m

-- up: of the multiples that are not below the amount, the least
pub record LeastNotBelow (step : ℕ) (x : Fraction) (m : ℤ) : Type 0 where
  pub not_below : NotBelow m x
  pub least : (k : ℤ) → MultipleOf step k → NotBelow k x → m ≤ℤ k

-- commercial: no multiple is nearer, and one that is as near is not farther from zero: of an amount from zero up it is not greater, below zero not less
pub record Nearest (step : ℕ) (x : Fraction) (m : ℤ) : Type 0 where
  pub nearest : (k : ℤ) → MultipleOf step k → distance m x ≤ distance k x
  pub greater : pos 0 ≤ℤ x.top → (k : ℤ) → MultipleOf step k → distance k x ≡ distance m x → k ≤ℤ m
  pub less : x.top <ℤ pos 0 → (k : ℤ) → MultipleOf step k → distance k x ≡ distance m x → m ≤ℤ k

abbrev pub Meant : Way → ℕ → Fraction → ℤ → Type 0
Meant Down = GreatestNotAbove
Meant Up = LeastNotBelow
Meant Commercial = Nearest

-- m cents are the amount, rounded
pub record Rounded (way : Way) (step : ℕ) (x : Fraction) (m : ℤ) : Type 0 where
  pub multiple : MultipleOf step m
  pub meant : Meant way step x m

-- ---- the three quotients, as whole numbers: q n against z

pub ceiling_ge : (z : ℤ) (n : ℕ) → 0 < n → z ≤ℤ (ceiling z n *ℤ pos n)
unfolding ceiling
ceiling_ge z n p = le_of (simp (parts, mul-zero) (omega (arith, simp (parts, mul-zero) at (le_in (floor_le (neg_ℤ z) n p)))))

pub ceiling_lt : (z : ℤ) (n : ℕ) → 0 < n → (ceiling z n *ℤ pos n) <ℤ (z +ℤ pos n)
unfolding ceiling
ceiling_lt z n p = lt_of (simp (parts, mul-zero) (omega (arith, simp (parts, mul-zero) at (lt_in (floor_lt (neg_ℤ z) n p)))))

-- a half goes to the number farther from zero
half_up : nearest (pos 1) 2 ≡ pos 1
unfolding nearest
half_up = refl

half_below_zero : nearest (negsuc 0) 2 ≡ negsuc 0
unfolding nearest
half_below_zero = refl

-- twice as much, since half a step need not be whole
near_lt : (a n : ℕ) → 0 < n → a * 2 + n < nearest_of a n * n * 2 + n * 2
near_lt a n p = omega (arith, lt-div-mul-add {a = a * 2 + n} {b = n * 2} (omega arith), mul_assoc (nearest_of a n) n 2)

near_le : (a n : ℕ) → nearest_of a n * n * 2 ≤ a * 2 + n
near_le a n = omega (arith, div-mul-le_self (a * 2 + n) (n * 2), mul_assoc (nearest_of a n) n 2)

pub nearest_lt : (z : ℤ) (n : ℕ) → 0 < n → pos 0 ≤ℤ z → (z *ℤ pos 2 +ℤ pos n) <ℤ (nearest z n *ℤ pos n *ℤ pos 2 +ℤ pos (n * 2))
unfolding nearest
nearest_lt (pos a) n p h = lt_of (omega (arith, near_lt a n p))
nearest_lt (negsuc a) n p h = absurd h.le

pub nearest_le : (z : ℤ) (n : ℕ) → 0 < n → pos 0 ≤ℤ z → (nearest z n *ℤ pos n *ℤ pos 2) ≤ℤ (z *ℤ pos 2 +ℤ pos n)
unfolding nearest
nearest_le (pos a) n p h = le_of (omega (arith, near_le a n))
nearest_le (negsuc a) n p h = absurd h.le

-- and below zero, the other way round
pub nearest_gt : (z : ℤ) (n : ℕ) → 0 < n → z <ℤ pos 0 → (nearest z n *ℤ pos n *ℤ pos 2 +ℤ pos n) <ℤ (z *ℤ pos 2 +ℤ pos (n * 2))
unfolding nearest
nearest_gt (pos a) n p h = absurd (omega (arith, lt_in h))
nearest_gt (negsuc a) n p h = lt_of (simp (parts, mul-zero, zero-mul) (omega (arith, near_lt (suc a) n p)))

pub nearest_ge : (z : ℤ) (n : ℕ) → 0 < n → z <ℤ pos 0 → (z *ℤ pos 2) ≤ℤ (nearest z n *ℤ pos n *ℤ pos 2 +ℤ pos n)
unfolding nearest
nearest_ge (pos a) n p h = absurd (omega (arith, lt_in h))
nearest_ge (negsuc a) n p h = le_of (simp (parts, mul-zero, zero-mul) (omega (arith, near_le (suc a) n)))

raise : (M K x : ℤ) (D : ℕ) → M <ℤ (x +ℤ pos D) → x ≤ℤ K → M <ℤ (K +ℤ pos D)
raise M K x D h k = lt_of (omega (arith, lt_in h, le_in k, sum_parts x (pos D), sum_parts K (pos D)))

-- ---- the nearest, over whole numbers M (meant), K (another) and x, D being the step

-- what is at most half a step away is nearest
near : (M K x : ℤ) (D : ℕ) → nat_abs (M -ℤ x) ≤ D / 2 → Apart D K M → nat_abs (M -ℤ x) ≤ nat_abs (K -ℤ x)
near M K x D half (inl a) = omega (arith, half, le_in a, sum_parts K (pos D), sub_parts M x, sub_parts K x, abs_parts (M -ℤ x), abs_parts (K -ℤ x))
near M K x D half (inr (inl e)) = rw e (le_refl (nat_abs (M -ℤ x)))
near M K x D half (inr (inr a)) = omega (arith, half, le_in a, sum_parts M (pos D), sub_parts M x, sub_parts K x, abs_parts (M -ℤ x), abs_parts (K -ℤ x))

-- from zero up: at most half a step above x, and less than half a step below it
module _ (M K x : ℤ) (D : ℕ)
    (low : (M *ℤ pos 2) ≤ℤ (x *ℤ pos 2 +ℤ pos D))
    (high : (x *ℤ pos 2 +ℤ pos D) <ℤ (M *ℤ pos 2 +ℤ pos (D * 2))) where
  half_above : (up M + dn x) * 2 ≤ (up x + dn M) * 2 + D
  half_above = omega (arith, simp (parts, mul-zero) at (le_in low))

  half_below : (up x + dn M) * 2 < (up M + dn x) * 2 + D
  half_below = omega (arith, simp (parts, mul-zero) at (lt_in high))

  half : nat_abs (M -ℤ x) ≤ D / 2
  half = abs_le (M -ℤ x) (omega (arith, half_above, sub_parts M x)) (omega (arith, half_below, sub_parts M x))

  -- what is as near is not a step above
  as_near : nat_abs (K -ℤ x) ≡ nat_abs (M -ℤ x) → K <ℤ (M +ℤ pos D)
  as_near e = lt_of (omega (arith, half, half_below, sum_parts M (pos D), sub_parts K x, abs_parts (K -ℤ x)))

-- below zero: less than half a step above x, and at most half a step below it
module _ (M K x : ℤ) (D : ℕ)
    (high : (M *ℤ pos 2 +ℤ pos D) <ℤ (x *ℤ pos 2 +ℤ pos (D * 2)))
    (low : (x *ℤ pos 2) ≤ℤ (M *ℤ pos 2 +ℤ pos D)) where
  less_above : (up M + dn x) * 2 < (up x + dn M) * 2 + D
  less_above = omega (arith, simp (parts, mul-zero) at (lt_in high))

  less_below : (up x + dn M) * 2 ≤ (up M + dn x) * 2 + D
  less_below = omega (arith, simp (parts, mul-zero) at (le_in low))

  less_half : nat_abs (M -ℤ x) ≤ D / 2
  less_half = abs_le (M -ℤ x) (omega (arith, less_above, sub_parts M x)) (omega (arith, less_below, sub_parts M x))

  -- what is as near is not a step below
  less_near : nat_abs (K -ℤ x) ≡ nat_abs (M -ℤ x) → M <ℤ (K +ℤ pos D)
  less_near e = lt_of (omega (arith, less_half, less_above, sum_parts K (pos D), sub_parts K x, abs_parts (K -ℤ x)))

-- from zero up, or below it
sign : (z : ℤ) → (pos 0 ≤ℤ z) ⊎ (z <ℤ pos 0)
sign z = go (le_z (pos 0) z) refl
  where
    go : (b : Bool) → le_z (pos 0) z ≡ b → (pos 0 ≤ℤ z) ⊎ (z <ℤ pos 0)
    go true e = inl (le_z_true (pos 0) z e)
    go false e = inr (le_z_false (pos 0) z e)

pub nearest_half : (z : ℤ) (n : ℕ) → 0 < n → nat_abs (nearest z n *ℤ pos n -ℤ z) ≤ n / 2
nearest_half z n p =
    let M = nearest z n *ℤ pos n in
    ⊎_elim (λ h. half M M z n (nearest_le z n p h) (nearest_lt z n p h)) (λ h. less_half M M z n (nearest_gt z n p h) (nearest_ge z n p h)) (sign z)

-- ---- the three ways

module _ (s : ℕ) (x : Fraction) (p : 0 < x.bottom) (q : 0 < s) where
  n_pos : 0 < x.bottom * s
  n_pos = omega (arith, mul-le-mul_right s p)

  -- k steps, in cents and in parts of a cent
  abbrev cents : ℤ → ℤ
  cents k = k *ℤ pos s

  abbrev fine : ℤ → ℤ
  fine k = cents k *ℤ pos x.bottom

  in_parts : (k : ℤ) → k *ℤ pos (x.bottom * s) ≡ fine k
  in_parts k = ap (λ (n : ℕ). k *ℤ pos n) (mul_comm x.bottom s) ∙ mul_pos_pos k s x.bottom

  -- a multiple that is less than a step above another is not above it
  within_step : (j k : ℤ) → fine j <ℤ (fine k +ℤ pos (x.bottom * s)) → cents j ≤ℤ cents k
  within_step j k h = mul_mono s (cancel_mul j k (x.bottom * s) (rw (in_parts j, in_parts k) h))

  is_down : GreatestNotAbove s x (multiple_by Down s x)
  unfolding multiple_by steps_by
  is_down =
      let n = x.bottom * s in
      let f = floor x.top n in
      let high = rw (in_parts f) at (floor_lt x.top n n_pos) in
      record {
        not_above = rw (← in_parts) (floor_le x.top n n_pos);
        greatest = λ k m h. rw m.is (within_step m.times f (lt_of (omega (arith, le_in (rw m.is at h), lt_in high))));
      }

  is_up : LeastNotBelow s x (multiple_by Up s x)
  unfolding multiple_by steps_by
  is_up =
      let n = x.bottom * s in
      let c = ceiling x.top n in
      let high = rw (in_parts c) at (ceiling_lt x.top n n_pos) in
      record {
        not_below = rw (← in_parts) (ceiling_ge x.top n n_pos);
        least = λ k m h. rw m.is (within_step c m.times (raise _ (fine m.times) x.top n high (rw m.is at h)));
      }

  is_near : Nearest s x (multiple_by Commercial s x)
  unfolding multiple_by steps_by
  is_near =
      let n = x.bottom * s in
      let c = nearest x.top n in
      record {
        nearest = λ k m. rw m.is (near (fine c) (fine m.times) x.top n (rw in_parts at (nearest_half x.top n n_pos)) (rw (← in_parts c, ← in_parts m.times) (apart n m.times c)));
        greater = λ h k m e. rw m.is (within_step m.times c (as_near (fine c) (fine m.times) x.top n (rw in_parts at (nearest_le x.top n n_pos h)) (rw in_parts at (nearest_lt x.top n n_pos h)) (rw m.is at e)));
        less = λ h k m e. rw m.is (within_step c m.times (less_near (fine c) (fine m.times) x.top n (rw in_parts at (nearest_gt x.top n n_pos h)) (rw in_parts at (nearest_ge x.top n n_pos h)) (rw m.is at e)));
      }

  means : (way : Way) → Meant way s x (multiple_by way s x)
  means Down = is_down
  means Up = is_up
  means Commercial = is_near

  is_multiple : (way : Way) → MultipleOf s (multiple_by way s x)
  unfolding multiple_by
  is_multiple way = record { times = steps_by way x.top (x.bottom * s); is = refl }

  only : (way : Way) (m : ℤ) → MultipleOf s m → Meant way s x m → m ≡ multiple_by way s x
  only Down m k g =
      let d = multiple_by Down s x in
      eq_parts m d (omega (arith, le_in (is_down.greatest m k g.not_above), le_in (g.greatest d (is_multiple Down) is_down.not_above)))
  only Up m k g =
      let d = multiple_by Up s x in
      eq_parts m d (omega (arith, le_in (is_up.least m k g.not_below), le_in (g.least d (is_multiple Up) is_up.not_below)))
  only Commercial m k g =
      let d = multiple_by Commercial s x in
      let e : distance m x ≡ distance d x = omega (arith, is_near.nearest m k, g.nearest d (is_multiple Commercial)) in
      ⊎_elim (λ h. eq_parts m d (omega (arith, le_in (is_near.greater h m k e), le_in (g.greater h d (is_multiple Commercial) (sym e)))))
      (λ h. eq_parts m d (omega (arith, le_in (is_near.less h m k e), le_in (g.less h d (is_multiple Commercial) (sym e))))) (sign x.top)

-- ---- the promise: for every amount, below zero too, and every step

module _ (way : Way) (step : ℕ) (x : Fraction) (p : 0 < x.bottom) (q : 0 < step) where
  -- What the definition gives is a multiple of the step, and the one that is meant: going down the greatest that is not above the amount, going up
  -- the least that is not below it, commercially the nearest, and of two that are as near the one farther from zero.
  pub rounded_means : Rounded way step x (multiple_by way step x)
  rounded_means = record { multiple = is_multiple step x p q way; meant = means step x p q way }

  -- No other number of cents is so: these words leave nothing open.
  pub rounded_unique : (m : ℤ) → Rounded way step x m → m ≡ multiple_by way step x
  rounded_unique m r = only step x p q way m r.multiple r.meant

-- ---- how far an amount is moved: at most a step

reach : (M x : ℤ) (D : ℕ) → up M + dn x ≤ up x + dn M + D → up x + dn M ≤ up M + dn x + D → nat_abs (M -ℤ x) ≤ D
reach M x D h k = abs_le (M -ℤ x) (omega (arith, sub_parts M x)) (omega (arith, sub_parts M x))

pub steps_reach : (way : Way) (z : ℤ) (n : ℕ) → 0 < n → nat_abs (steps_by way z n *ℤ pos n -ℤ z) ≤ n
unfolding steps_by
steps_reach Down z n p =
    let M = floor z n *ℤ pos n in
    reach M z n (omega (arith, le_in (floor_le z n p))) (omega (arith, lt_in (floor_lt z n p), sum_parts M (pos n)))
steps_reach Up z n p =
    let M = ceiling z n *ℤ pos n in
    reach M z n (omega (arith, lt_in (ceiling_lt z n p), sum_parts z (pos n))) (omega (arith, le_in (ceiling_ge z n p)))
steps_reach Commercial z n p =
    omega (arith, nearest_half z n p)

divide : (a t k b : ℕ) → 0 < b → a * b ≤ t + k * b → a ≤ t + k
divide a t k b p h =
    le_of_suc-le-suc
    (lt_of_mul-lt-mul_right b {m = a} {n = suc (t + k)} (simp (suc-mul, add-mul) (omega (arith, mul-le-mul_right t p, mul_comm t b))))

module _ (way : Way) (s : ℕ) (x : Fraction) (p : 0 < x.bottom) (q : 0 < s) where
  pub multiple_reach : distance (multiple_by way s x) x ≤ x.bottom * s
  unfolding multiple_by
  multiple_reach = rw (← in_parts s x p q) (steps_reach way x.top (x.bottom * s) (n_pos s x p q))

  multiple_bound_parts : nat_abs (multiple_by way s x) * x.bottom ≤ nat_abs x.top + s * x.bottom
  multiple_bound_parts =
      let m = multiple_by way s x in
      omega (arith, multiple_reach, abs_near (m *ℤ pos x.bottom) x.top, abs_mul m (pos x.bottom), mul_comm s x.bottom)

  pub multiple_bound : nat_abs (multiple_by way s x) ≤ nat_abs x.top + s
  multiple_bound = divide (nat_abs (multiple_by way s x)) (nat_abs x.top) s x.bottom p multiple_bound_parts

-- with the cents added before and after
module _ (r : Rounding) (x : Fraction) (p : 0 < x.bottom) (q : 0 < r.step) where
  pub plus_bound : nat_abs (multiple_by r.way r.step (plus x r.before)) ≤ nat_abs x.top + (nat_abs r.before.0 + r.step)
  plus_bound =
      let b = r.before.0 in
      divide _ (nat_abs x.top) (nat_abs b + r.step) x.bottom p
      (rw add-mul (omega (
        arith,
        multiple_bound_parts r.way r.step (plus x r.before) p q,
        abs_add x.top (b *ℤ pos x.bottom),
        abs_mul b (pos x.bottom),
      )))

  pub rounded_bound : nat_abs (rounded r x) ≤ nat_abs x.top + (nat_abs r.before.0 + r.step + nat_abs r.after.0)
  unfolding rounded
  rounded_bound = omega (arith, plus_bound, abs_add (multiple_by r.way r.step (plus x r.before)) r.after.0)
