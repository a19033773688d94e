-- The granted names that brought no line: their places rise, so the set of those places has as many ones as there are names,
-- and a number of 32 bits holds the places of 32 names.
use Prim.Native.Nat.{ℕ, zero, suc, ◌+◌, ◌-◌, ◌*◌, ◌^◌, ◌<◌, ◌≤◌}
use mathlib.Core.Path.{◌≡◌, refl, sym, ◌∙◌, ap, subst}
use mathlib.Core.Bool.{Bool, true, false, not}
use mathlib.Core.List.{List, [], ◌∷◌}
use native.Mathlib.Omega.{arith}
use native.Mathlib.Nat.{pow-suc, mul_assoc, mul_comm, add-mul, one-mul, zero-mul, add_comm, add-zero, le_refl, le_trans, le_of_lt, lt_of_le_of_lt, le_of_suc-le-suc, not-suc-le-zero}
use lib.Pow.{pow-add, pow_pos, pow-lt, pow_mono}
use lib.Count.{ones, ones_cat}
use lib.ListN.{length}
use Rattle.rules.specs.Lists.{keep, cons_if, same}
use Rattle.rules.specs.Question.{Granted, Question, Grant, placed, firsts, grants}
use Rattle.rules.specs.Lines.{Line}
use Rattle.rules.specs.Price.{set_of, unused_of}

-- ---- places in order

-- the places rise, each above k and none above n
abbrev pub Rising : ℕ → ℕ → List Grant → Type 0
Rising k n [] = k ≤ n
Rising k n (g ∷ gs) = (k < g.place) × Rising g.place n gs

pub rising_lower : (j k n : ℕ) (gs : List Grant) → j ≤ k → Rising k n gs → Rising j n gs
rising_lower j k n [] h r = le_trans h r
rising_lower j k n (g ∷ gs) h r = (lt_of_le_of_lt h r.0, r.1)

pub rising_room : (k n : ℕ) (gs : List Grant) → Rising k n gs → k ≤ n
rising_room k n [] r = r
rising_room k n (g ∷ gs) r = le_trans (le_of_lt r.0) (rising_room g.place n gs r.1)

rising_if : (b : Bool) (k n : ℕ) (g : Grant) (gs : List Grant) → k < g.place → Rising g.place n gs → Rising k n (cons_if b g gs)
rising_if true k n g gs h r = (h, r)
rising_if false k n g gs h r = rising_lower k g.place n gs (le_of_lt h) r

pub rising_keep : (p : Grant → Bool) (k n : ℕ) (gs : List Grant) → Rising k n gs → Rising k n (keep p gs)
rising_keep p k n [] r = r
rising_keep p k n (g ∷ gs) r = rising_if (p g) k n g (keep p gs) r.0 (rising_keep p g.place n gs r.1)

rising_placed : (k n : ℕ) (names : List Granted) → k + length names ≤ n → Rising k n (placed (suc k) names)
rising_placed k n [] h = omega arith
rising_placed k n (name ∷ names) h = (omega arith, rising_placed (suc k) n names (omega arith))

rising_firsts : (k n : ℕ) (gs : List Grant) → Rising k n gs → Rising k n (firsts gs)
rising_firsts k n [] r = r
rising_firsts k n (g ∷ gs) r = (r.0, rising_keep (λ h. not (same h.name g.name)) g.place n (firsts gs) (rising_firsts g.place n gs r.1))

-- of at most n names the places are at most n
pub rising_grants : (n : ℕ) (names : List Granted) → length names ≤ n → Rising 0 n (grants names)
unfolding grants
rising_grants n names h = rising_firsts 0 n (placed 1 names) (rising_placed 0 n names (omega arith))

pub rising_unused : (n : ℕ) (q : Question) (ls : List Line) → length q.granted ≤ n → Rising 0 n (unused_of q ls)
unfolding unused_of
rising_unused n q ls h = rising_keep _ 0 n (grants q.granted) (rising_grants n q.granted h)

-- ---- the set and its ones

-- a place and what stands above it: an odd multiple of the place's bit
odd : (a m : ℕ) → 2 ^ m + a * 2 ^ suc m ≡ (1 + a * 2) * 2 ^ m
odd a m =
    ap (λ x. 2 ^ m + a * x) (pow-suc 2 m ∙ mul_comm (2 ^ m) 2)
    ∙ ap (λ x. 2 ^ m + x) (sym (mul_assoc a 2 (2 ^ m)))
    ∙ sym (add-mul 1 (a * 2) (2 ^ m) ∙ ap (λ x. x + a * 2 * 2 ^ m) (one-mul (2 ^ m)))

split : (k m : ℕ) → k ≤ m → 2 ^ m ≡ 2 ^ (m - k) * 2 ^ k
split k m h = let e : m ≡ (m - k) + k = omega arith in ap (λ x. 2 ^ x) e ∙ pow-add 2 (m - k) k

-- the place p and the multiple a of the places above it
with_place : (k p a s : ℕ) → k < p → s ≡ a * 2 ^ p → (b : ℕ) × (2 ^ (p - 1) + s ≡ b * 2 ^ k)
with_place k zero a s h e = absurd (not-suc-le-zero h)
with_place k (suc m) a s h e =
    let u : suc m - 1 ≡ m = omega arith in (
      (1 + a * 2) * 2 ^ (m - k),
      ap (λ x. 2 ^ x + s) u
          ∙ ap (λ x. 2 ^ m + x) e
          ∙ odd a m
          ∙ ap (λ x. (1 + a * 2) * x) (split k m (le_of_suc-le-suc h))
          ∙ sym (mul_assoc (1 + a * 2) (2 ^ (m - k)) (2 ^ k)),
    )

-- of places above k, the set is a multiple of 2^k
pub set_multiple : (k n : ℕ) (gs : List Grant) → Rising k n gs → (a : ℕ) × (set_of gs ≡ a * 2 ^ k)
set_multiple k n [] r = (0, sym (zero-mul (2 ^ k)))
set_multiple k n (g ∷ gs) r =
    let x = set_multiple g.place n gs r.1 in
    with_place k g.place x.0 (set_of gs) r.0 x.1

ones_zero : ones 0 ≡ 0
unfolding ones
ones_zero = refl

ones_one : ones 1 ≡ 1
unfolding ones
ones_one = refl

-- a multiple of 2^k has as many ones as the factor
ones_times : (a k : ℕ) → ones (a * 2 ^ k) ≡ ones a
ones_times a k = ap ones (sym (add-zero (a * 2 ^ k))) ∙ ones_cat k a 0 (pow_pos k) ∙ ap (λ x. ones a + x) ones_zero ∙ add-zero (ones a)

ones_pow : (m : ℕ) → ones (2 ^ m) ≡ 1
ones_pow m = ap ones (sym (one-mul (2 ^ m))) ∙ ones_times 1 m ∙ ones_one

one_more : (k p a s : ℕ) → k < p → s ≡ a * 2 ^ p → ones (2 ^ (p - 1) + s) ≡ suc (ones s)
one_more k zero a s h e = absurd (not-suc-le-zero h)
one_more k (suc m) a s h e =
    let u : suc m - 1 ≡ m = omega arith in
    let t : ones a ≡ ones s = sym (ap ones e ∙ ones_times a (suc m)) in
    let v : ones (2 ^ m) ≡ 1 = ones_pow m in
    ap (λ x. ones (2 ^ x + s)) u
    ∙ ap ones (ap (λ x. 2 ^ m + x) e ∙ add_comm (2 ^ m) (a * 2 ^ suc m))
    ∙ ones_cat (suc m) a (2 ^ m) (pow-lt (omega arith))
    ∙ omega arith

pub ones_set : (k n : ℕ) (gs : List Grant) → Rising k n gs → ones (set_of gs) ≡ length gs
ones_set k n [] r = ones_zero
ones_set k n (g ∷ gs) r =
    let x = set_multiple g.place n gs r.1 in
    one_more k g.place x.0 (set_of gs) r.0 x.1 ∙ ap suc (ones_set g.place n gs r.1)

-- the count that the answer gives is the set's count of ones
pub unused_count_lem : (q : Question) (ls : List Line) → ones (set_of (unused_of q ls)) ≡ length (unused_of q ls)
unused_count_lem q ls = ones_set 0 (length q.granted) (unused_of q ls) (rising_unused (length q.granted) q ls (le_refl (length q.granted)))

-- ---- the set is small

half : (k p : ℕ) → k < p → 2 ^ p ≡ 2 ^ (p - 1) + 2 ^ (p - 1)
half k zero h = absurd (not-suc-le-zero h)
half k (suc m) h = let u : suc m - 1 ≡ m = omega arith in rw u (omega (arith, pow-suc 2 m))

room : (k p : ℕ) → k < p → 2 ^ k ≤ 2 ^ (p - 1)
room k p h = pow_mono (omega arith)

-- places above k and up to n leave room for the bits below k
set_room : (k n : ℕ) (gs : List Grant) → Rising k n gs → set_of gs + 2 ^ k ≤ 2 ^ n
set_room k n [] r = omega (arith, pow_mono r)
set_room k n (g ∷ gs) r = omega (arith, set_room g.place n gs r.1, half k g.place r.0, room k g.place r.0)

pub set_below : (k n : ℕ) (gs : List Grant) → Rising k n gs → set_of gs < 2 ^ n
set_below k n gs r = omega (arith, set_room k n gs r, pow_pos k)

pub unused_below : (n : ℕ) (q : Question) (ls : List Line) → length q.granted ≤ n → set_of (unused_of q ls) < 2 ^ n
unused_below n q ls h = set_below 0 n (unused_of q ls) (rising_unused n q ls h)

-- ---- the set as code builds it, from the first grant to the last

-- `set` has the places up to k, and with those of the grants that are left it is the whole; no place is above n
pub record Building (n whole set k : ℕ) (gs : List Grant) : Type 0 where
  pub is : set + set_of gs ≡ whole
  pub below : set < 2 ^ k
  pub rising : Rising k n gs

pub building_starts : (n : ℕ) (gs : List Grant) → Rising 0 n gs → Building n (set_of gs) 0 0 gs
building_starts n gs r = record { is = omega arith; below = omega arith; rising = r }

module _ {n whole set k : ℕ} {g : Grant} {gs : List Grant} (w : Building n whole set k (g ∷ gs)) where
  -- the next place is above those in the set
  pub building_room : (1 ≤ g.place) × ((g.place ≤ n) × (set < 2 ^ (g.place - 1)))
  building_room =
      let h : k < g.place = w.rising.0 in
      (omega arith, (rising_room g.place n gs w.rising.1, omega (arith, w.below, room k g.place h)))

  pub building_with : Building n whole (2 ^ (g.place - 1) + set) g.place gs
  building_with =
      let h : k < g.place = w.rising.0 in
      record {
        is = omega (arith, w.is);
        below = omega (arith, half k g.place h, building_room.1.1);
        rising = w.rising.1;
      }

-- of the grants that are left, those that pass a test: the first does, or it does not
module _ (p : Grant → Bool) (g : Grant) (gs : List Grant) {n whole set k : ℕ} (w : Building n whole set k (keep p (g ∷ gs))) where
  pub building_takes : p g ≡ true → Building n whole set k (g ∷ keep p gs)
  building_takes e = subst (λ (b : Bool). Building n whole set k (cons_if b g (keep p gs))) e w

  pub building_skips : p g ≡ false → Building n whole set k (keep p gs)
  building_skips e = subst (λ (b : Bool). Building n whole set k (cons_if b g (keep p gs))) e w

pub building_ends : {n whole set k : ℕ} → Building n whole set k [] → set ≡ whole
building_ends w = omega (arith, w.is)
