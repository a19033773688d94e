-- Properties at a place: tests of a value's bytes, values, and properties; each of them ends somewhere, or there is none.
use Prim.Native.Nat.{ℕ, zero, suc, ◌+◌, ◌-◌, ◌≤◌, ◌<◌}
use mathlib.Core.Path.{◌≡◌, refl, sym, ◌∙◌, ap}
use mathlib.Core.Bool.{Bool, true, false, ◌&&◌, and-true, and-false, and_assoc}
use mathlib.Core.List.{List, [], ◌∷◌}
use native.Mathlib.Omega.{arith}
use native.Mathlib.Decide.{dec_lt}
use lib.Dec.{eqb, leb, ltb}
use lib.ListN.{length, take, drop, get_or}
use Rattle.rules.specs.Lists.{all, any, between}
use Rattle.rules.specs.Layout.{◌such◌, byte}
use Rattle.rules.specs.Bytes.{name, name_byte}
use Rattle.rules.specs.Question.{property, value_for, value_byte}
use Rattle.rules.proofs.TestLaws.{and_left, and_right}
use Rattle.layout.specs.Reads.{Reads, part, name_stop, name_at}
use Rattle.layout.specs.Counted.{Ends}
use Rattle.layout.specs.Ensures.{Says, Number, NameEnd}
use Rattle.layout.proofs.LayoutLaws.{then_reads, then_broken, such_reads, reads_as, byte_at, one_of_reads, give_reads, sized_such, sized_byte, sized_one_of}
use Rattle.layout.proofs.NameLaws.{name_cut, name_good, name_bad}
use Rattle.layout.proofs.ReadingLaws.{wants_any, wants_then, wanted}
use Rattle.layout.proofs.CountedLaws.{ends_none, such_good, such_bad, SomeEnd, CountedEnd, counted_any}
use Rattle.layout.proofs.NameEndLaws.{name_ends, name_any}
use Rattle.properties.specs.Properties.{property_at, property_stop}

-- ---- values

all_both : (p q : ℕ → Bool) (xs : List ℕ) → all (λ x. p x && q x) xs ≡ (all p xs && all q xs)
all_both p q [] = refl
all_both p q (x ∷ xs) = ap (λ b. (p x && q x) && b) (all_both p q xs) ∙ four (p x) (q x) (all p xs) (all q xs)
  where
    four : (a b c d : Bool) → ((a && b) && (c && d)) ≡ ((a && c) && (b && d))
    four true true c d = refl
    four true false c d = sym (and-false c)
    four false b c d = refl

module _ (width : ℕ) (s : List ℕ) (at : ℕ) where
  -- no name, no value
  no_value : NameEnd 1 width s at 0 → Ends (name 1 width such all value_byte) name_at name_stop s at 0
  no_value p = ends_none (then_broken _ _ p.reads refl)

  module _ {n top : ℕ} (size : Number (get_or s at 0) top n) (h : at < length s) where
    pub value_cut : length s - (at + 1) < n → Ends (name 1 width such all value_byte) name_at name_stop s at 0
    value_cut g = no_value (name_cut 1 width s at size h g)

    module _ (g : n ≤ length s - (at + 1)) {r : Bool} (all-is : Says (all (λ b. name_byte b && value_byte b) (take (at + 1 + n - (at + 1)) (drop (at + 1) s))) r) where
      -- one pass tests what the definition tests one after the other: the name's bytes, and the value's
      tests : (leb 1 n && leb n width && all name_byte (part s (at + 1) (at + 1 + n)) && all value_byte (part s (at + 1) (at + 1 + n))) ≡ (leb 1 n && leb n width && r)
      tests =
          and_assoc (leb 1 n && leb n width) (all name_byte (part s (at + 1) (at + 1 + n))) (all value_byte (part s (at + 1) (at + 1 + n)))
          ∙ ap (λ b. leb 1 n && leb n width && b) (sym (all_both name_byte value_byte (part s (at + 1) (at + 1 + n))) ∙ all-is.is)

      named : (leb 1 n && leb n width && all name_byte (part s (at + 1) (at + 1 + n))) ≡ true → Ends (name 1 width) name_at name_stop s at (at + 1 + n)
      named e = name_ends (name_good 1 width s at size h g (record { is = refl }) e)

      pub value_good : (leb 1 n && leb n width && r) ≡ true → Ends (name 1 width such all value_byte) name_at name_stop s at (at + 1 + n)
      value_good t = such_good (all value_byte) (named (and_left _ _ (tests ∙ t))) (rw size.is at (and_right (leb 1 n && leb n width && all name_byte (part s (at + 1) (at + 1 + n))) _ (tests ∙ t)))

      pub value_bad : (leb 1 n && leb n width && r) ≡ false → Ends (name 1 width such all value_byte) name_at name_stop s at 0
      value_bad t = go (leb 1 n && leb n width && all name_byte (part s (at + 1) (at + 1 + n))) refl (tests ∙ t)
        where
          go : (b : Bool) → (leb 1 n && leb n width && all name_byte (part s (at + 1) (at + 1 + n))) ≡ b → (b && all value_byte (part s (at + 1) (at + 1 + n))) ≡ false
              → Ends (name 1 width such all value_byte) name_at name_stop s at 0
          go true e f = such_bad (all value_byte) (named e) (rw size.is at f)
          go false e f = no_value (name_bad 1 width s at size h g (record { is = refl }) e)

-- ---- properties

module _ {s : List ℕ} {at r : ℕ} (width : ℕ) where
  pub value_none : (state : ℕ) → (state ≡ 0 → ⊥) → NameEnd 0 0 s at r → Ends (value_for width state) name_at name_stop s at r
  value_none zero e p = absurd (e refl)
  value_none (suc state) e p = name_ends p

module _ (s : List ℕ) (at : ℕ) where
  pub property_cut : length s - at < 2 → Ends property property_at property_stop s at 0
  property_cut h = ends_none (wanted _ (wants_then _ _ (sized_such byte (between 1 30) sized_byte) λ width. wants_then _ _ (sized_one_of (0 ∷ 1 ∷ 2 ∷ [])) λ state. wants_any) s at h)

  module _ (h : 2 ≤ length s - at) {width top end : ℕ} {t : Bool} (size : Number (get_or s at 0) top width) (p : Ends (value_for width (get_or s (at + 1) 0)) name_at name_stop s (at + 2) end)
      (q : Says (any (eqb (get_or s (at + 1) 0)) (0 ∷ 1 ∷ 2 ∷ [])) t) where
    property_reads : Reads property s at (leb 1 width && leb width 30 && t && ltb 0 end) (property_at s at) (property_stop s at)
    property_reads = reads_as (
        then_reads _ _ (such_reads byte (between 1 30) (byte_at s at (omega arith))) (then_reads _ _ (one_of_reads s at (0 ∷ 1 ∷ 2 ∷ []) 1 (omega arith))
        (then_reads _ _ (rw size.is at p).reads give_reads)))
        (rw (← size.is, q.is) (simp (and_assoc, and-true))) refl

    pub property_good : (leb 1 width && leb width 30 && t) ≡ true → Ends property property_at property_stop s at end
    property_good e = record {
      reads = reads_as property_reads (ap (λ b. b && ltb 0 end) e) refl;
      stops = p.stops;
      low = λ g. omega (arith, p.low g);
      fits = p.fits;
    }

    pub property_bad : (leb 1 width && leb width 30 && t) ≡ false → Ends property property_at property_stop s at 0
    property_bad e = ends_none (reads_as property_reads (ap (λ b. b && ltb 0 end) e) refl).is

-- ---- each of them ends somewhere, or there is none

-- a value by the name that it is, and then its own test
pub value_any : (width state : ℕ) (s : List ℕ) (at : ℕ) → SomeEnd (value_for width state) name_at name_stop s at
value_any width (suc state) s at = name_any 0 0 s at
value_any width zero s at = go (name_any 1 width s at)
  where
    go : SomeEnd (name 1 width) name_at name_stop s at → SomeEnd (name 1 width such all value_byte) name_at name_stop s at
    go (r, p) = by (all value_byte (name_at s at)) refl
      where
        by : (b : Bool) → all value_byte (name_at s at) ≡ b → SomeEnd (name 1 width such all value_byte) name_at name_stop s at
        by true e = (r, such_good (all value_byte) p e)
        by false e = (0, such_bad (all value_byte) p e)

property_any : (s : List ℕ) (at : ℕ) → at ≤ length s → SomeEnd property property_at property_stop s at
property_any s at l = first (dec_lt (length s - at) 2)
  where
    size : Number (get_or s at 0) (get_or s at 0 + 1) (get_or s at 0)
    size = record { is = refl; below = omega arith }

    test : Bool
    test = any (eqb (get_or s (at + 1) 0)) (0 ∷ 1 ∷ 2 ∷ [])

    second : 2 ≤ length s - at → SomeEnd (value_for (get_or s at 0) (get_or s (at + 1) 0)) name_at name_stop s (at + 2) → SomeEnd property property_at property_stop s at
    second h (r, p) = by (leb 1 (get_or s at 0) && leb (get_or s at 0) 30 && test) refl
      where
        by : (b : Bool) → (leb 1 (get_or s at 0) && leb (get_or s at 0) 30 && test) ≡ b → SomeEnd property property_at property_stop s at
        by true e = (r, property_good s at h size p (record { is = refl }) e)
        by false e = (0, property_bad s at h size p (record { is = refl }) e)

    first : Dec (length s - at < 2) → SomeEnd property property_at property_stop s at
    first (yes h) = (0, property_cut s at h)
    first (no h) = second (omega arith) (value_any (get_or s at 0) (get_or s (at + 1) 0) s (at + 2))

pub properties_any : (s : List ℕ) (at : ℕ) → at ≤ length s → CountedEnd property property_at property_stop s at (at + 1) (get_or s at 0)
properties_any s = counted_any property property_at property_stop s (property_any s)
