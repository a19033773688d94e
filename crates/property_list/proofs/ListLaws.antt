-- A list of properties: the loop over them, and what is known of an accepted list.
use Prim.Native.Nat.{ℕ, zero, suc, ◌+◌, ◌-◌, ◌≤◌, ◌<◌}
use mathlib.Core.Path.{◌≡◌, refl, sym, ◌∙◌, ap}
use mathlib.Core.Bool.{Bool, true, false, ◌&&◌, and-false, false≢true}
use mathlib.Core.List.{List}
use mathlib.Core.Option.{some, none}
use native.Mathlib.Omega.{arith}
use native.Mathlib.Nat.{not-suc-le-zero}
use native.Mathlib.Decide.{dec_lt}
use lib.Dec.{eqb, leb}
use lib.ListN.{length, get_or}
use borrow.Author.Tests.{lt-ltb, le-ltb, lt-leb, eqb-true}
use Rattle.rules.specs.Lists.{between, is_some}
use Rattle.rules.specs.Layout.{byte, times, wholly}
use Rattle.rules.proofs.TestLaws.{is_between}
use Rattle.layout.specs.Reads.{Reads}
use Rattle.layout.specs.Ensures.{Number}
use Rattle.layout.specs.Counted.{values_at, AllStand, stop_after}
use Rattle.layout.proofs.LayoutLaws.{then_reads, then_broken, reads_as, such_reads, byte_at, byte_cut, whole_is}
use Rattle.layout.proofs.ReadingLaws.{times_step, whole_at}
use Rattle.layout.proofs.CountedLaws.{SomeEnd, ends_stands}
use Rattle.relation_rules.specs.Truth.{held, held_list, properties_of}
use Rattle.property_list.specs.Listed.{held_at, held_stop, HeldEnds, held_from}
use Rattle.property_list.specs.Slots.{HeldPass}
use Rattle.property_list.proofs.HeldLaws.{held_any}

-- ---- the loop

-- n properties are left from `end` on: what they are decides about the list
pub record Left (s : List ℕ) (end n : ℕ) : Type 0 where
  pub fits : end ≤ length s
  pub rest : (ok : Bool) (next : ℕ) → Reads (times n held) s end ok (held_from s end n) next → Reads held_list s 0 ok (held_from s 1 (get_or s 0 0)) next

-- broken at its head
none_such : (s : List ℕ) → held_list s ≡ none → false ≡ is_some (properties_of s)
unfolding properties_of
none_such s e = sym (ap (λ o. is_some (wholly o)) e)

module _ (s : List ℕ) where
  pub list_empty : length s < 1 → false ≡ is_some (properties_of s)
  list_empty h = none_such s (then_broken _ _ (such_reads byte (between 0 64) (byte_cut s 0 (omega arith))) refl)

  pub list_many : 1 ≤ length s → 64 < get_or s 0 0 → false ≡ is_some (properties_of s)
  list_many h g = none_such s (then_broken _ _ (such_reads byte (between 0 64) (byte_at s 0 h)) (ap (λ b. leb 0 (get_or s 0 0) && b) (lt-leb (get_or s 0 0) 64 g) ∙ and-false (leb 0 (get_or s 0 0))))

  pub list_start : 1 ≤ length s → {n top : ℕ} → Number (get_or s 0 0) top n → n ≤ 64 → Left s 1 n
  list_start h is g = record {
    fits = h;
    rest = λ ok next r. reads_as (then_reads _ _ (such_reads byte (between 0 64) (byte_at s 0 h)) (rw is.is at r)) (ap (λ (b : Bool). b && ok) (is_between 0 64 (get_or s 0 0) (omega arith) (omega (arith, is.is)))) refl;
  }

module _ {s : List ℕ} {end : ℕ} where
  pub list_broken : {n r : ℕ} → Left s end n → 0 < n → HeldEnds s end r → r < 1 → false ≡ is_some (properties_of s)
  unfolding values_at
  list_broken {n = zero} inv g p h = absurd (not-suc-le-zero g)
  list_broken {n = suc n} {r} inv g p h = none_such s (inv.rest false 0 (record { is = then_broken _ _ p.reads (le-ltb 0 r (omega arith)) })).is

  pub list_again : {n r : ℕ} → Left s end n → 0 < n → HeldEnds s end r → 1 ≤ r → Left s r (n - 1)
  unfolding values_at
  list_again {n = zero} inv g p h = absurd (not-suc-le-zero g)
  list_again {n = suc n} {r} inv g p h =
      let e : suc n - 1 ≡ n = omega arith in
      rw (e, p.stops h) (record {
        fits = omega (arith, p.fits, p.stops h);
        rest = λ ok next q. inv.rest ok next (reads_as (times_step n p.reads q) (rw (lt-ltb 0 r h)) refl);
      })

  -- the next of n properties, i of which are passed
  pub list_next : {n i r : ℕ} → Left s end (n - i) → i < n → HeldEnds s end r → 0 < r → Left s r (n - (i + 1))
  list_next {n} {i} inv g p h =
      let e : n - i - 1 ≡ n - (i + 1) = omega arith in
      rw e at (list_again inv (omega arith) p h)

  -- nothing is left: the list reads to here
  pub list_reads : Left s end 0 → Reads held_list s 0 true (held_from s 1 (get_or s 0 0)) end
  unfolding values_at
  list_reads inv = inv.rest true end (record { is = refl })

  pub list_end : {n : ℕ} → Left s end n → n ≤ 0 → eqb end (length s) ≡ is_some (properties_of s)
  unfolding properties_of
  list_end {n = zero} inv h = sym (whole_at held_list (list_reads inv) inv.fits)
  list_end {n = suc n} inv h = absurd (not-suc-le-zero h)

-- ---- of an accepted list: every property is there

pub record Listed (s : List ℕ) : Type 0 where
  pub there : 1 ≤ length s
  pub passing : HeldPass s 1 (get_or s 0 0)
  pub are : properties_of s ≡ some (held_from s 1 (get_or s 0 0))

module _ (s : List ℕ) (k : is_some (properties_of s) ≡ true) where
  all_there : (n end : ℕ) → Left s end n → HeldPass s end n × (properties_of s ≡ some (held_from s 1 (get_or s 0 0)))
  unfolding AllStand stop_after properties_of
  all_there zero end inv =
      let whole-list = sym (whole_at held_list (list_reads inv) inv.fits) ∙ k in
      (record { left = record { fits = inv.fits; each = tt }; ends = eqb-true end (length s) whole-list }, whole_is held_list (list_reads inv) (omega (arith, eqb-true end (length s) whole-list)))
  all_there (suc n) end inv = go (λ e i. all_there n e i) (held_any s end inv.fits)
    where
      go : ((e : ℕ) → Left s e n → HeldPass s e n × (properties_of s ≡ some (held_from s 1 (get_or s 0 0)))) → SomeEnd held held_at held_stop s end
          → HeldPass s end (suc n) × (properties_of s ≡ some (held_from s 1 (get_or s 0 0)))
      go ih (r, p) = by (dec_lt 0 r)
        where
          by : Dec (0 < r) → HeldPass s end (suc n) × (properties_of s ≡ some (held_from s 1 (get_or s 0 0)))
          by (no h) = absurd (false≢true (list_broken inv (omega arith) p (omega arith) ∙ k))
          by (yes h) =
              let e : suc n - 1 ≡ n = omega arith in
              let x = ih (held_stop s end) (rw (e, p.stops h) at (list_again inv (omega arith) p h)) in
              (record { left = record { fits = inv.fits; each = (ends_stands p h, x.0.left.each) }; ends = x.0.ends }, x.1)

  pub listed : Listed s
  listed = first (dec_lt (length s) 1)
    where
      size : Number (get_or s 0 0) (get_or s 0 0 + 1) (get_or s 0 0)
      size = record { is = refl; below = omega arith }

      second : 1 ≤ length s → Dec (64 < get_or s 0 0) → Listed s
      second h (yes g) = absurd (false≢true (list_many s h g ∙ k))
      second h (no g) = let x = all_there (get_or s 0 0) 1 (list_start s h size (omega arith)) in record { there = h; passing = x.0; are = x.1 }

      first : Dec (length s < 1) → Listed s
      first (yes h) = absurd (false≢true (list_empty s h ∙ k))
      first (no h) = second (omega arith) (dec_lt 64 (get_or s 0 0))
