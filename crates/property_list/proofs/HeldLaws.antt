-- Properties at a position: values, and properties; each of them ends somewhere, or there is none.
use Prim.Native.Nat.{ℕ, zero, suc, ◌+◌, ◌-◌, ◌≤◌, ◌<◌}
use mathlib.Core.Path.{◌≡◌, refl, sym, subst}
use mathlib.Core.Bool.{true, false, and-true}
use mathlib.Core.List.{List, [], ◌∷◌}
use mathlib.Core.Option.{none}
use mathlib.Core.Logic.{◌⊎◌, inl, inr}
use native.Mathlib.Omega.{arith}
use native.Mathlib.Decide.{dec_lt}
use native.Mathlib.Nat.{suc-ne-zero, not-suc-le-zero}
use lib.Dec.{eqb, ltb}
use lib.ListN.{length, drop, get_or}
use borrow.Author.Tests.{lt-ltb, le-ltb, ne_eqb}
use Rattle.rules.specs.Lists.{any}
use Rattle.rules.specs.Bytes.{name}
use Rattle.layout.specs.Reads.{name_stop, name_at}
use Rattle.layout.specs.Ensures.{NameEnd}
use Rattle.layout.proofs.LayoutLaws.{then_reads, then_broken, reads_as, give_reads, number_at_lem, number_cut, one_of_at, one_of_cut}
use Rattle.layout.proofs.ReadingLaws.{then_none}
use Rattle.layout.proofs.CountedLaws.{ends_none, SomeEnd}
use Rattle.layout.proofs.NameLaws.{name_cases}
use Rattle.layout.proofs.NameEndLaws.{name_ends, name_any}
use Rattle.relation_rules.specs.Truth.{held, value_of}
use Rattle.property_list.specs.Listed.{ValueEnds, held_at, held_stop, HeldEnds}

-- ---- values

module _ {s : List ℕ} {at : ℕ} where
  value_broken : (kind : ℕ) → value_of kind (drop at s) ≡ none → ValueEnds kind s at 0
  value_broken kind e = record {
    reads = record { is = e };
    stops = λ h. absurd (not-suc-le-zero h);
    low = λ h. absurd (not-suc-le-zero h);
    fits = omega arith;
  }

  pub value_none : (kind : ℕ) → 0 < at → at ≤ length s → kind ≡ 0 → ValueEnds kind s at at
  value_none zero h g e = record { reads = reads_as give_reads (sym (lt-ltb 0 at h)) refl; stops = λ l. refl; low = λ l. omega arith; fits = g }
  value_none (suc k) h g e = absurd (suc-ne-zero k e)

  pub value_text : {r : ℕ} (kind : ℕ) → kind ≡ 1 → NameEnd 0 255 s at r → ValueEnds kind s at r
  value_text zero e p = absurd (suc-ne-zero 0 (sym e))
  value_text {r} (suc zero) e p =
      let q = name_ends p in
      record { reads = reads_as (then_reads _ _ q.reads give_reads) (and-true (ltb 0 r)) refl; stops = q.stops; low = λ h. omega (arith, q.low h); fits = q.fits }
  value_text (suc (suc k)) e p = absurd (suc-ne-zero k (omega arith))

  pub value_cut : (kind : ℕ) → at ≤ length s → (kind ≡ 0 → ⊥) → (kind ≡ 1 → ⊥) → length s - at < 8 → ValueEnds kind s at 0
  value_cut zero l n m h = absurd (n refl)
  value_cut (suc zero) l n m h = absurd (m refl)
  value_cut (suc (suc k)) l n m h = value_broken (suc (suc k)) (then_broken _ _ (then_reads _ _ (number_cut s at 8 l (omega arith)) give_reads) refl)

  pub value_number : (kind : ℕ) → at ≤ length s → (kind ≡ 0 → ⊥) → (kind ≡ 1 → ⊥) → 8 ≤ length s - at → ValueEnds kind s at (at + 8)
  value_number zero l n m h = absurd (n refl)
  value_number (suc zero) l n m h = absurd (m refl)
  value_number (suc (suc k)) l n m h = record {
    reads = reads_as (then_reads _ _ (then_reads _ _ (number_at_lem s at 8 (omega arith)) give_reads) give_reads) (sym (lt-ltb 0 (at + 8) (omega arith))) refl;
    stops = λ g. refl;
    low = λ g. omega arith;
    fits = omega arith;
  }

-- ---- properties

three_bad : (b : ℕ) → 2 < b → any (eqb b) (0 ∷ 1 ∷ 2 ∷ []) ≡ false
three_bad b h = rw (ne_eqb b 0 (λ i. omega arith), ne_eqb b 1 (λ i. omega arith), ne_eqb b 2 (λ i. omega arith))

three_good : (b : ℕ) → b ≤ 2 → any (eqb b) (0 ∷ 1 ∷ 2 ∷ []) ≡ true
three_good zero h = refl
three_good (suc zero) h = refl
three_good (suc (suc zero)) h = refl
three_good (suc (suc (suc k))) h = absurd (omega arith)

module _ {s : List ℕ} {at a : ℕ} (p : NameEnd 0 255 s at a) where
  pub held_unnamed : a < 1 → HeldEnds s at 0
  held_unnamed h = ends_none (then_broken _ _ p.reads (le-ltb 0 a (omega arith)))

  pub held_cut : 1 ≤ a → length s ≤ a → HeldEnds s at 0
  held_cut h g = ends_none (then_none _ _ p.reads (then_broken _ _ (one_of_cut s a (0 ∷ 1 ∷ 2 ∷ []) g) refl))

  pub held_odd : 1 ≤ a → a < length s → 2 < get_or s a 0 → HeldEnds s at 0
  held_odd h g b = ends_none (then_none _ _ p.reads (then_broken _ _ (one_of_at s a (0 ∷ 1 ∷ 2 ∷ []) g) (three_bad (get_or s a 0) b)))

  module _ (h : 1 ≤ a) (g : a < length s) (b : get_or s a 0 ≤ 2) where
    pub held_ends : {r : ℕ} → ValueEnds (get_or s a 0) s (a + 1) r → HeldEnds s at r
    unfolding held_at held_stop
    held_ends {r} = go ((name_ends p).stops h)
      where
        go : a ≡ name_stop s at → ValueEnds (get_or s a 0) s (a + 1) r → HeldEnds s at r
        go e q = at_stop (subst (λ (k : ℕ). ValueEnds (get_or s k 0) s (k + 1) r) e q) (subst (λ (k : ℕ). k < length s) e g) (subst (λ (k : ℕ). get_or s k 0 ≤ 2) e b)
          where
            at_stop : ValueEnds (get_or s (name_stop s at) 0) s (name_stop s at + 1) r → name_stop s at < length s → get_or s (name_stop s at) 0 ≤ 2 → HeldEnds s at r
            at_stop v l k = record {
              reads = reads_as (
                  then_reads _ _ (name_ends p).reads (then_reads _ _ (one_of_at s (name_stop s at) (0 ∷ 1 ∷ 2 ∷ []) l) (then_reads _ _ v.reads give_reads)))
                  (rw (lt-ltb 0 a h, three_good (get_or s (name_stop s at) 0) k) (and-true (ltb 0 r))) refl;
              stops = v.stops;
              low = λ x. omega (arith, v.low x);
              fits = v.fits;
            }

-- ---- each of them ends somewhere, or there is none

value_any : (kind : ℕ) (s : List ℕ) (at : ℕ) → 0 < at → at ≤ length s → (r : ℕ) × ValueEnds kind s at r
value_any zero s at h g = (at, value_none 0 h g refl)
value_any (suc zero) s at h g = go (name_any 0 255 s at)
  where
    go : SomeEnd (name 0 255) name_at name_stop s at → (r : ℕ) × ValueEnds 1 s at r
    go (r, q) = (r, record { reads = reads_as (then_reads _ _ q.reads give_reads) (and-true (ltb 0 r)) refl; stops = q.stops; low = λ h. omega (arith, q.low h); fits = q.fits })
value_any (suc (suc k)) s at h g = go (dec_lt (length s - at) 8)
  where
    go : Dec (length s - at < 8) → (r : ℕ) × ValueEnds (suc (suc k)) s at r
    go (yes l) = (0, value_cut (suc (suc k)) g (λ e. suc-ne-zero (suc k) e) (λ e. suc-ne-zero k (omega arith)) l)
    go (no l) = (at + 8, value_number (suc (suc k)) g (λ e. suc-ne-zero (suc k) e) (λ e. suc-ne-zero k (omega arith)) (omega arith))

pub held_any : (s : List ℕ) (at : ℕ) → at ≤ length s → SomeEnd held held_at held_stop s at
held_any s at l = first (name_cases 0 255 s at)
  where
    third : NameEnd 0 255 s at (name_stop s at) → name_stop s at < length s → Dec (2 < get_or s (name_stop s at) 0) → SomeEnd held held_at held_stop s at
    third p g (yes k) = (0, held_odd p (omega arith) g k)
    third p g (no k) =
        let v = value_any (get_or s (name_stop s at) 0) s (name_stop s at + 1) (omega arith) (omega arith) in
        (v.0, held_ends p (omega arith) g (omega arith) v.1)

    second : NameEnd 0 255 s at (name_stop s at) → Dec (name_stop s at < length s) → SomeEnd held held_at held_stop s at
    second p (yes g) = third p g (dec_lt 2 (get_or s (name_stop s at) 0))
    second p (no g) = (0, held_cut p (omega arith) (omega arith))

    first : NameEnd 0 255 s at 0 ⊎ NameEnd 0 255 s at (name_stop s at) → SomeEnd held held_at held_stop s at
    first (inl p) = (0, held_unnamed p (omega arith))
    first (inr p) = second p (dec_lt (name_stop s at) (length s))
