-- The ones of a number are the places in its set; and the set that the rules make of grants has their places, and no other.
use Prim.Native.Nat.{ℕ, zero, suc, ◌+◌, ◌-◌, ◌*◌, ◌/◌, ◌%◌, ◌^◌, ◌<◌, ◌≤◌}
use mathlib.Core.Path.{◌≡◌, refl, sym, ◌∙◌, ap}
use mathlib.Core.Bool.{Bool, true, false}
use mathlib.Core.List.{List, [], ◌∷◌}
use native.Mathlib.Omega.{arith}
use native.Mathlib.Nat.{div-div-eq-div-mul, pow-succ', pow-suc, div-one, mul_assoc, add-mul, le_refl, le_of_lt}
use native.Mathlib.Decide.{dec_lt}
use lib.Arith.{lt-one}
use lib.Bits.{bit_or, or_shifted_r}
use lib.Count.{ones, ones_step}
use lib.Dec.{eqb}
use lib.ListN.{length}
use lib.Pow.{pow-lt, shl-shr, shr-shr, high}
use borrow.Author.Tests.{eq-eqb, ne_eqb}
use Rattle.rules.specs.Lists.{cons_if, any}
use Rattle.rules.specs.Question.{Question, Grant}
use Rattle.rules.specs.Lines.{Line}
use Rattle.rules.specs.Price.{set_of, unused_of}
use Rattle.rules.proofs.TestLaws.{not_below}
use Rattle.rules.proofs.UnusedLaws.{Rising, rising_lower, rising_unused, set_multiple}
use Rattle.grants.specs.PlaceSet.{is_in, members, Counts}

-- ---- the count

counted_if : (b place : ℕ) (rest : List ℕ) → b < 2 → length (cons_if (eqb b 1) place rest) ≡ b + length rest
counted_if zero place rest h = omega arith
counted_if (suc zero) place rest h = omega arith
counted_if (suc (suc b)) place rest h = absurd (omega arith)

one_more : (n set : ℕ) → length (members (suc n) set) ≡ set / 2 ^ n % 2 + length (members n set)
unfolding members
one_more n set = let e : suc n - 1 ≡ n = omega arith in rw e (counted_if (set / 2 ^ n % 2) (suc n) (members n set) (omega arith))

-- the lowest place, and the others of half the set
lowest : (n set : ℕ) → length (members (suc n) set) ≡ set % 2 + length (members n (set / 2))
unfolding members
lowest zero set = one_more 0 set ∙ ap (λ (x : ℕ). x % 2 + 0) (div-one set)
lowest (suc n) set =
    let e : set / 2 ^ suc n % 2 ≡ set / 2 / 2 ^ n % 2 = ap (λ (x : ℕ). set / x % 2) (pow-succ' 2 n) ∙ ap (λ (x : ℕ). x % 2) (sym (div-div-eq-div-mul set 2 (2 ^ n))) in
    omega (arith, e, one_more (suc n) set, lowest n set, one_more n (set / 2))

pub ones_members : (n set : ℕ) → set < 2 ^ n → ones set ≡ length (members n set)
unfolding ones members
ones_members zero set h = ap ones (lt-one h)
ones_members (suc n) set h = ones_step set ∙ ap (λ (x : ℕ). set % 2 + x) (ones_members n (set / 2) (omega (arith, pow-suc 2 n))) ∙ sym (lowest n set)

-- no more than there are places
few_members : (n set : ℕ) → length (members n set) ≤ n
unfolding members
few_members zero set = omega arith
few_members (suc n) set = omega (arith, one_more n set, few_members n set)

pub counts : (set : ℕ) → set < 2 ^ 32 → Counts set (ones set)
counts set h = record {
  is = refl;
  places = ones_members 32 set h;
  few = omega (arith, ones_members 32 set h, few_members 32 set);
}

-- ---- one place more

-- the bit of a place that is above all of the set
pub with_is : (place set : ℕ) → 1 ≤ place → place ≤ 32 → set < 2 ^ (place - 1) → bit_or set (1 * 2 ^ (place - 1) % 4294967296) ≡ 2 ^ (place - 1) + set
with_is place set low high above =
    let most : 2 ^ (place - 1) < 4294967296 = pow-lt {i = place - 1} {j = 32} (omega arith) in
    let e : 1 * 2 ^ (place - 1) % 4294967296 ≡ 1 * 2 ^ (place - 1) = omega arith in
    ap (bit_or set) e ∙ (or_shifted_r 1 (place - 1) set above ∙ omega arith)

-- ---- the places of grants in rising order

-- a place and those above it, cut off above the place
cut_off : (g a set : ℕ) → 1 ≤ g → set ≡ a * 2 ^ g → (2 ^ (g - 1) + set) / 2 ^ g ≡ set / 2 ^ g
cut_off g a set h e =
    let small : 2 ^ (g - 1) < 2 ^ g = pow-lt {i = g - 1} {j = g} (omega arith) in
    let f : 2 ^ (g - 1) + set ≡ a * 2 ^ g + 2 ^ (g - 1) = omega arith in
    ap (λ (x : ℕ). x / 2 ^ g) f ∙ (high a g small ∙ sym (ap (λ (x : ℕ). x / 2 ^ g) e ∙ shl-shr a g))

module _ (place : ℕ) (low : 1 ≤ place) where
  abbrev is_at : Grant → Bool
  is_at g = eqb g.place place

  none_at : (n : ℕ) (gs : List Grant) → Rising place n gs → any is_at gs ≡ false
  none_at n [] r = refl
  none_at n (g ∷ gs) r =
      let h : place < g.place = r.0 in
      let ne : g.place ≡ place → ⊥ = λ e. omega arith in
      rw (ne_eqb g.place place ne, none_at n gs (rising_lower place g.place n gs (le_of_lt h) r.1))

  twice : (a : ℕ) → a * 2 ^ place ≡ a * 2 * 2 ^ (place - 1)
  twice a =
      let e : suc (place - 1) ≡ place = omega arith in
      ap (λ (x : ℕ). a * x) (ap (λ (x : ℕ). 2 ^ x) (sym e) ∙ pow-succ' 2 (place - 1)) ∙ sym (mul_assoc a 2 (2 ^ (place - 1)))

  even : (set a : ℕ) → set ≡ a * 2 ^ place → set / 2 ^ (place - 1) % 2 ≡ 0
  even set a e =
      let q : set / 2 ^ (place - 1) ≡ a * 2 = ap (λ (x : ℕ). x / 2 ^ (place - 1)) (e ∙ twice a) ∙ shl-shr (a * 2) (place - 1) in
      omega (arith, q)

  -- all places are above this one
  above_it : (n : ℕ) (gs : List Grant) → Rising place n gs → is_in (set_of gs) place ≡ any is_at gs
  above_it n gs r = let m = set_multiple place n gs r in rw (even (set_of gs) m.0 m.1, none_at n gs r)

  -- this one, and places above it
  at_it : (set a : ℕ) → set ≡ a * 2 ^ place → is_in (2 ^ (place - 1) + set) place ≡ true
  at_it set a e =
      let f : 2 ^ (place - 1) + set ≡ (a * 2 + 1) * 2 ^ (place - 1) = ap (λ (x : ℕ). 2 ^ (place - 1) + x) (e ∙ twice a) ∙ omega (arith, add-mul (a * 2) 1 (2 ^ (place - 1))) in
      let q : (2 ^ (place - 1) + set) / 2 ^ (place - 1) ≡ a * 2 + 1 = ap (λ (x : ℕ). x / 2 ^ (place - 1)) f ∙ shl-shr (a * 2 + 1) (place - 1) in
      eq-eqb ((2 ^ (place - 1) + set) / 2 ^ (place - 1) % 2) 1 (omega (arith, q))

  -- a lower place changes nothing
  below_it : (g a set : ℕ) → 1 ≤ g → g < place → set ≡ a * 2 ^ g → is_in (2 ^ (g - 1) + set) place ≡ is_in set place
  below_it g a set h l e =
      let j : g + (place - 1 - g) ≡ place - 1 = omega arith in
      let down : (n : ℕ) → n / 2 ^ (place - 1) ≡ n / 2 ^ g / 2 ^ (place - 1 - g) = λ n. ap (λ (x : ℕ). n / 2 ^ x) (sym j) ∙ sym (shr-shr n g (place - 1 - g)) in
      ap (λ (x : ℕ). eqb (x % 2) 1) (down (2 ^ (g - 1) + set) ∙ (ap (λ (x : ℕ). x / 2 ^ (place - 1 - g)) (cut_off g a set h e) ∙ sym (down set)))

  with_first : (k n : ℕ) (g : Grant) (gs : List Grant) → Rising k n (g ∷ gs) → is_in (set_of gs) place ≡ any is_at gs → is_in (set_of (g ∷ gs)) place ≡ any is_at (g ∷ gs)
  with_first k n g gs r rest = go (dec_lt place g.place) (dec_lt g.place place)
    where
      m : (a : ℕ) × (set_of gs ≡ a * 2 ^ g.place)
      m = set_multiple g.place n gs r.1

      go : Dec (place < g.place) → Dec (g.place < place) → is_in (set_of (g ∷ gs)) place ≡ any is_at (g ∷ gs)
      go (yes l) h = above_it n (g ∷ gs) (l, r.1)
      go (no a) (yes l) =
          let ne : g.place ≡ place → ⊥ = λ e. omega arith in
          let h : k < g.place = r.0 in
          below_it g.place m.0 (set_of gs) (omega arith) l m.1 ∙ (rest ∙ rw (ne_eqb g.place place ne))
      go (no a) (no b) =
          let e : g.place ≡ place = omega (arith, not_below place g.place a, not_below g.place place b) in
          rw (eq-eqb g.place place e) (ap (λ (x : ℕ). is_in (2 ^ (x - 1) + set_of gs) place) e ∙ at_it (set_of gs) m.0 (m.1 ∙ ap (λ (x : ℕ). m.0 * 2 ^ x) e))

  -- a place is in the set of some grants exactly where one of them has it
  pub in_set : (k n : ℕ) (gs : List Grant) → Rising k n gs → is_in (set_of gs) place ≡ any (λ g. eqb g.place place) gs
  in_set k n [] r = above_it place [] (le_refl place)
  in_set k n (g ∷ gs) r = with_first k n g gs r (in_set g.place n gs r.1)

  pub in_unused_set : (q : Question) (ls : List Line) → is_in (set_of (unused_of q ls)) place ≡ any (λ g. eqb g.place place) (unused_of q ls)
  in_unused_set q ls = in_set 0 (length q.granted) (unused_of q ls) (rising_unused (length q.granted) q ls (le_refl (length q.granted)))
