-- A count and that many values of one layout: the loop over them, and a walk over those of an accepted count.
use Prim.Native.Nat.{ℕ, zero, suc, ◌+◌, ◌-◌, ◌≤◌, ◌<◌}
use mathlib.Core.Path.{◌≡◌, refl, sym, ◌∙◌, ap}
use mathlib.Core.Bool.{Bool, true, false, ◌&&◌, and-true, and-false}
use mathlib.Core.List.{List}
use mathlib.Core.Option.{Option, some, none, none-ne-some}
use native.Mathlib.Omega.{arith}
use native.Mathlib.Nat.{not-suc-le-zero}
use native.Mathlib.Decide.{dec_lt}
use lib.Dec.{leb, ltb}
use lib.ListN.{length, drop, get_or}
use borrow.Author.Tests.{lt-ltb, le-ltb, lt-leb}
use Rattle.rules.specs.Lists.{between}
use Rattle.rules.proofs.TestLaws.{is_between, between_high}
use Rattle.rules.specs.Layout.{Layout, and_then, ◌>>=◌, ◌such◌, byte, times}
use Rattle.layout.specs.Reads.{only, Reads}
use Rattle.layout.specs.Ensures.{Number}
use Rattle.layout.proofs.LayoutLaws.{then_reads, then_broken, reads_as, such_reads, byte_at, byte_cut}
use Rattle.layout.specs.Counted.{counted, values_at, counted_at, stop_after, counted_stop, Ends, Stands, AllStand, Standing, Step, Passing, Left}
use Rattle.layout.proofs.ReadingLaws.{times_step, then_good}

-- a count and its values, and what is behind them
pub counted_reads : {A B : Type 0} (m : Layout A) (f : ℕ → List A → Layout B) {s : List ℕ} {at next end : ℕ} {ok ok' : Bool} {vs : List A} {w : B}
    → Reads (counted m) s at ok vs next → ((n : ℕ) → Reads (f n vs) s next ok' w end)
    → Reads ((byte such between 0 32) >>= λ n. times n m >>= f n) s at (ok && ok') w end
counted_reads {A} {B} m f {s} {at} {next} {end} {ok} {ok'} {vs} {w} p q = record { is = go ((byte such between 0 32) (drop at s)) p.is }
  where
    behind : (n : ℕ) (ok : Bool) → and_then (only ok (vs, drop next s)) (f n) ≡ only (ok && ok') (w, drop end s)
    behind n true = (q n).is
    behind n false = refl

    none_both : (ok : Bool) → ◌≡◌ {A = Option (List A × List ℕ)} none (only ok (vs, drop next s)) → ◌≡◌ {A = Option (B × List ℕ)} none (only (ok && ok') (w, drop end s))
    none_both true e = absurd (none-ne-some (vs, drop next s) e)
    none_both false e = refl

    go : (o : Option (ℕ × List ℕ)) → and_then o (λ n. times n m) ≡ only ok (vs, drop next s) → and_then o (λ n. times n m >>= f n) ≡ only (ok && ok') (w, drop end s)
    go none e = none_both ok e
    go (some x) e = ap (λ o. and_then o (f x.0)) e ∙ behind x.0 ok

-- ---- the loop over counted values

module _ {A : Type 0} {m : Layout A} {value : List ℕ → ℕ → A} {stop : List ℕ → ℕ → ℕ} {s : List ℕ} {at : ℕ} where
  pub ends_none : m (drop at s) ≡ none → Ends m value stop s at 0
  ends_none e = record {
    reads = record { is = e };
    stops = λ h. absurd (not-suc-le-zero h);
    low = λ h. absurd (not-suc-le-zero h);
    fits = omega arith;
  }

-- a value that must pass a test
module _ {A : Type 0} {m : Layout A} {value : List ℕ → ℕ → A} {stop : List ℕ → ℕ → ℕ} {s : List ℕ} {at r : ℕ} (t : A → Bool) (p : Ends m value stop s at r) where
  such_is : {b : Bool} → t (value s at) ≡ b → Reads (m such t) s at (ltb 0 r && b) (value s at) (stop s at)
  such_is e = reads_as (such_reads m t p.reads) (ap (λ b. ltb 0 r && b) e) refl

  pub such_good : t (value s at) ≡ true → Ends (m such t) value stop s at r
  such_good e = record {
    reads = reads_as (such_is e) (and-true (ltb 0 r)) refl;
    stops = p.stops;
    low = p.low;
    fits = p.fits;
  }

  pub such_bad : t (value s at) ≡ false → Ends (m such t) value stop s at 0
  such_bad e = ends_none (reads_as (such_is e) (and-false (ltb 0 r)) refl).is

module _ {A : Type 0} (m : Layout A) (value : List ℕ → ℕ → A) (stop : List ℕ → ℕ → ℕ) (s : List ℕ) (at : ℕ) where
  pub count_cut : length s ≤ at → Ends (counted m) (counted_at value stop) (counted_stop stop) s at 0
  count_cut h = ends_none (then_broken _ _ (such_reads byte (between 0 32) (byte_cut s at h)) refl)

  pub count_many : at < length s → 32 < get_or s at 0 → Ends (counted m) (counted_at value stop) (counted_stop stop) s at 0
  count_many h g = ends_none (then_broken _ _ (such_reads byte (between 0 32) (byte_at s at h)) (ap (λ b. leb 0 (get_or s at 0) && b) (lt-leb (get_or s at 0) 32 g) ∙ and-false (leb 0 (get_or s at 0))))

  module _ (h : at < length s) {n top : ℕ} (is : Number (get_or s at 0) top n) where
    pub count_start : n ≤ 32 → Left m value stop s at (at + 1) n
    unfolding counted_at counted_stop
    count_start g = record {
      low = omega arith;
      fits = omega arith;
      ends = rw is.is;
      rest = λ ok r. reads_as (then_reads _ _ (such_reads byte (between 0 32) (byte_at s at h)) (rw is.is at r)) (ap (λ (b : Bool). b && ok) (is_between 0 32 (get_or s at 0) (omega arith) (omega (arith, is.is)))) refl;
    }

    -- none of them passed
    pub count_first : n ≤ 32 → Left m value stop s at (at + 1) (n - 0)
    count_first g =
        let e : n - 0 ≡ n = omega arith in
        rw e (count_start g)

module _ {A : Type 0} {m : Layout A} {value : List ℕ → ℕ → A} {stop : List ℕ → ℕ → ℕ} {s : List ℕ} {at end : ℕ} where
  pub count_end : {n : ℕ} → Left m value stop s at end n → n ≤ 0 → Ends (counted m) (counted_at value stop) (counted_stop stop) s at end
  unfolding values_at stop_after
  count_end {n = zero} inv h = record {
    reads = rw (lt-ltb 0 end (omega (arith, inv.low))) (inv.rest true (record { is = refl }));
    stops = λ g. inv.ends;
    low = λ g. inv.low;
    fits = inv.fits;
  }
  count_end {n = suc n} inv h = absurd (not-suc-le-zero h)

  pub count_broken : {n r : ℕ} → Left m value stop s at end n → 0 < n → Ends m value stop s end r → r < 1 → Ends (counted m) (counted_at value stop) (counted_stop stop) s at 0
  unfolding values_at stop_after
  count_broken {n = zero} inv g p h = absurd (not-suc-le-zero g)
  count_broken {n = suc n} {r} inv g p h = ends_none (inv.rest false (record { is = then_broken _ _ p.reads (le-ltb 0 r (omega arith)) })).is

  pub count_again : {n r : ℕ} → Left m value stop s at end n → 0 < n → Ends m value stop s end r → 1 ≤ r → Left m value stop s at r (n - 1)
  unfolding values_at stop_after
  count_again {n = zero} inv g p h = absurd (not-suc-le-zero g)
  count_again {n = suc n} {r} inv g p h =
      let e : suc n - 1 ≡ n = omega arith in
      rw (e, p.stops h) (record {
        low = omega (arith, inv.low, p.low h, p.stops h);
        fits = omega (arith, p.fits, p.stops h);
        ends = inv.ends;
        rest = λ ok q. inv.rest ok (reads_as (times_step n p.reads q) (rw (lt-ltb 0 r h)) refl);
      })

  -- the next of n values, i of which are passed
  pub count_next : {n i r : ℕ} → Left m value stop s at end (n - i) → i < n → Ends m value stop s end r → 0 < r → Left m value stop s at r (n - (i + 1))
  count_next {n} {i} inv g p h =
      let e : n - i - 1 ≡ n - (i + 1) = omega arith in
      rw e at (count_again inv (omega arith) p h)

-- ---- of an accepted count: every value is there

module _ {A : Type 0} {m : Layout A} {value : List ℕ → ℕ → A} {stop : List ℕ → ℕ → ℕ} {s : List ℕ} {at r : ℕ} (p : Ends m value stop s at r) where
  -- where there is one, it stops at its end
  pub ends_reads : Reads m s at (ltb 0 r) (value s at) r
  ends_reads = go (dec_lt 0 r)
    where
      go : Dec (0 < r) → Reads m s at (ltb 0 r) (value s at) r
      go (yes h) = reads_as p.reads refl (sym (p.stops h))
      go (no h) =
          let e : r ≡ 0 = omega arith in
          record { is = p.reads.is ∙ rw e }

  pub ends_stands : 0 < r → Stands m value stop s at
  ends_stands h = record {
    reads = reads_as p.reads (lt-ltb 0 r h) refl;
    low = omega (arith, p.low h, p.stops h);
    fits = omega (arith, p.fits, p.stops h);
  }

module _ {A : Type 0} (m : Layout A) (value : List ℕ → ℕ → A) (stop : List ℕ → ℕ → ℕ) (s : List ℕ) (at : ℕ) where
  -- a value's end, or 0
  abbrev pub SomeEnd : Type 0
  SomeEnd = (r : ℕ) × Ends m value stop s at r

  -- the end of counted values, or 0; and where there is one, n of them stand from `from` on
  abbrev pub CountedEnd : ℕ → ℕ → Type 0
  CountedEnd from n = (r : ℕ) × Ends (counted m) (counted_at value stop) (counted_stop stop) s at r × (0 < r → Standing m value stop s from n)

module _ {A : Type 0} (m : Layout A) (value : List ℕ → ℕ → A) (stop : List ℕ → ℕ → ℕ) (s : List ℕ) (each : (at : ℕ) → at ≤ length s → SomeEnd m value stop s at) (at : ℕ) where
  run : (n end : ℕ) → Left m value stop s at end n → CountedEnd m value stop s at end n
  unfolding AllStand
  run zero end inv = (end, count_end inv (omega arith), λ h. record { fits = inv.fits; each = tt })
  run (suc n) end inv = go (λ e i. run n e i) (each end inv.fits)
    where
      go : ((e : ℕ) → Left m value stop s at e n → CountedEnd m value stop s at e n) → SomeEnd m value stop s end → CountedEnd m value stop s at end (suc n)
      go ih (r, p) = by (dec_lt 0 r)
        where
          by : Dec (0 < r) → CountedEnd m value stop s at end (suc n)
          by (no h) = (0, count_broken inv (omega arith) p (omega arith), λ l. absurd (not-suc-le-zero l))
          by (yes h) =
              let e : suc n - 1 ≡ n = omega arith in
              let x = ih (stop s end) (rw (e, p.stops h) at (count_again inv (omega arith) p h)) in
              (x.0, x.1, λ l. record { fits = inv.fits; each = (ends_stands p h, (x.2 l).each) })

  pub counted_any : at ≤ length s → CountedEnd m value stop s at (at + 1) (get_or s at 0)
  counted_any l = first (dec_lt at (length s))
    where
      size : Number (get_or s at 0) (get_or s at 0 + 1) (get_or s at 0)
      size = record { is = refl; below = omega arith }

      second : at < length s → Dec (32 < get_or s at 0) → CountedEnd m value stop s at (at + 1) (get_or s at 0)
      second h (yes g) = (0, count_many m value stop s at h g, λ l. absurd (not-suc-le-zero l))
      second h (no g) = run (get_or s at 0) (at + 1) (count_start m value stop s at h size (omega arith))

      first : Dec (at < length s) → CountedEnd m value stop s at (at + 1) (get_or s at 0)
      first (yes h) = second h (dec_lt 32 (get_or s at 0))
      first (no h) = (0, count_cut m value stop s at (omega arith), λ l. absurd (not-suc-le-zero l))

-- an accepted count is at most 32
pub counted_few : {A : Type 0} (m : Layout A) {s : List ℕ} {at r : ℕ} {vs : List A} → Reads (counted m) s at true vs r → at < length s → get_or s at 0 ≤ 32
counted_few m {s} {at} p h = between_high 0 32 (get_or s at 0) (then_good _ _ (such_reads byte (between 0 32) (byte_at s at h)) p)

-- ---- a walk over values that stand there: the first, and the others

module _ {A : Type 0} {m : Layout A} {value : List ℕ → ℕ → A} {stop : List ℕ → ℕ → ℕ} {s : List ℕ} where
  pub walk_step : {at n : ℕ} → Standing m value stop s at n → 0 < n → Step m value stop s at n
  unfolding AllStand values_at
  walk_step {n = zero} p h = absurd (not-suc-le-zero h)
  walk_step {n = suc n} p h =
      let e : suc n - 1 ≡ n = omega arith in
      record { here = p.each.0; rest = rw e (record { fits = p.each.0.fits; each = p.each.1 }); values = rw e }

  pub walk_here : {at n : ℕ} → Standing m value stop s at n → 0 < n → Stands m value stop s at
  walk_here p h = (walk_step p h).here

  pub pass_start : {at n : ℕ} → Standing m value stop s at n → Passing m value stop s at n (stop_after stop s at n)
  pass_start p = record { left = p; ends = refl }

  pub pass_here : {at n end : ℕ} → Passing m value stop s at n end → 0 < n → Stands m value stop s at
  pass_here p h = walk_here p.left h

  pub pass_again : {at n end r : ℕ} → Passing m value stop s at n end → 0 < n → r ≡ stop s at → Passing m value stop s r (n - 1) end
  unfolding stop_after
  pass_again {n = zero} p h e = absurd (not-suc-le-zero h)
  pass_again {n = suc n} p h e =
      let f : suc n - 1 ≡ n = omega arith in
      rw (e, f) (record { left = rw f at (walk_step p.left h).rest; ends = p.ends })

  -- the next of n values, i of which are passed
  pub pass_next : {at n i end r : ℕ} → Passing m value stop s at (n - i) end → i < n → r ≡ stop s at → Passing m value stop s r (n - (i + 1)) end
  pass_next {n} {i} p h e =
      let f : n - i - 1 ≡ n - (i + 1) = omega arith in
      rw f at (pass_again p (omega arith) e)

  pub pass_end : {at n end : ℕ} → Passing m value stop s at n end → n ≤ 0 → at ≡ end
  unfolding stop_after
  pass_end {n = zero} p h = p.ends
  pass_end {n = suc n} p h = absurd (not-suc-le-zero h)
