-- Any layout at a place: one value and then n more, what a broken or a good field says of the whole, too few bytes, nothing behind.
use Prim.Native.Nat.{ℕ, suc, ◌+◌, ◌-◌, ◌≤◌, ◌<◌}
use mathlib.Core.Path.{◌≡◌, refl, sym, ◌∙◌, ap}
use mathlib.Core.Bool.{Bool, true, false, ◌&&◌, ◌||◌, and-true, and_assoc, or-false, or_assoc}
use mathlib.Core.List.{List, [], ◌∷◌}
use mathlib.Core.Option.{Option, some, none, none-ne-some, some-injective}
use native.Mathlib.Omega.{arith}
use native.Mathlib.Nat.{not-suc-le-zero}
use native.Mathlib.Decide.{dec_lt}
use lib.Dec.{eqb}
use lib.ListN.{length, drop, length-drop, drop_of_length-le}
use lib.Seq.{drop-cons}
use borrow.Author.Tests.{eq-eqb, ne_eqb}
use Rattle.std.specs.List.{fold}
use Rattle.rules.specs.Lists.{all, any, is_some}
use Rattle.rules.specs.Layout.{Layout, and_then, ◌>>=◌, times, whole, wholly}
use Rattle.layout.specs.Ensures.{Says}
use Rattle.layout.specs.Reads.{only, when, Reads, Sized, Wants}
use Rattle.layout.proofs.LayoutLaws.{then_reads, then_broken, then_rest, then_when, reads_as, give_reads}

-- one value off n values of any layout
pub times_step : {A : Type 0} {m : Layout A} {s : List ℕ} {at next end : ℕ} {ok ok' : Bool} {v : A} {vs : List A} (n : ℕ)
    → Reads m s at ok v next → Reads (times n m) s next ok' vs end → Reads (times (suc n) m) s at (ok && ok') (v ∷ vs) end
times_step {ok} {ok'} n p q = reads_as (then_reads _ _ p (then_reads _ _ q give_reads)) (ap (λ b. ok && b) (and-true ok')) refl

module _ {A B : Type 0} (m : Layout A) (f : A → Layout B) {s : List ℕ} {at next : ℕ} {ok : Bool} {v : A} (p : Reads m s at ok v next) where
  -- what breaks the rest breaks the whole
  pub then_none : f v (drop next s) ≡ none → (m >>= f) (drop at s) ≡ none
  then_none e = then_when m f p e ∙ go ok
    where
      go : (ok : Bool) → when {A = B × List ℕ} ok none ≡ none
      go true = refl
      go false = refl

  module _ {w : B} {end : ℕ} (q : Reads (m >>= f) s at true w end) where
    -- where the whole was read, the field was good
    pub then_good : ok ≡ true
    then_good = go ok refl
      where
        go : (b : Bool) → ok ≡ b → b ≡ true
        go true e = refl
        go false e = absurd (none-ne-some (w, drop end s) (sym (then_broken m f p e) ∙ q.is))

    -- and so was the rest
    pub then_behind : Reads (f v) s next true w end
    then_behind = record { is = sym (then_rest m f p then_good) ∙ q.is }

-- two readings of one place stop at one place
pub same_stop : {A : Type 0} {m : Layout A} {s : List ℕ} {at r q : ℕ} {v w : A} → Reads m s at true v r → Reads m s at true w q → r ≤ length s → q ≤ length s → r ≡ q
same_stop {s} {r} {q} {v} {w} a b h g =
    let e : length (drop r s) ≡ length (drop q s) = ap (λ p. length p.1) (some-injective (v, drop r s) (w, drop q s) (sym a.is ∙ b.is)) in
    omega (arith, e, length-drop r s, length-drop q s)

pub wants_any : {A : Type 0} {m : Layout A} → Wants m 0
wants_any = record { short = λ s h. absurd (not-suc-le-zero h) }

pub wants_then : {A B : Type 0} (m : Layout A) (f : A → Layout B) {n k : ℕ} → Sized m n → ((v : A) → Wants (f v) k) → Wants (m >>= f) (n + k)
wants_then m f {n} {k} p q = record { short = λ s h. go s h (m s) refl }
  where
    go : (s : List ℕ) → length s < n + k → (o : Option (_ × List ℕ)) → m s ≡ o → and_then o f ≡ none
    go s h none e = refl
    go s h (some x) e = (q x.0).short x.1 (omega (arith, p.takes s x.0 x.1 e))

pub wanted : {A : Type 0} (m : Layout A) {n : ℕ} → Wants m n → (s : List ℕ) (at : ℕ) → length s - at < n → m (drop at s) ≡ none
wanted m p s at h = p.short (drop at s) (rw length-drop h)

-- ---- the whole: a value with nothing behind it

pub whole_at : {A : Type 0} (m : Layout A) {s : List ℕ} {at end : ℕ} {ok : Bool} {v : A} → Reads m s at ok v end → end ≤ length s → is_some (whole m (drop at s)) ≡ (ok && eqb end (length s))
whole_at m {s} {at} {end} {ok} {v} p h = ap (λ o. is_some (wholly o)) p.is ∙ go ok (dec_lt end (length s))
  where
    go : (ok : Bool) → Dec (end < length s) → is_some (wholly (only ok (v, drop end s))) ≡ (ok && eqb end (length s))
    go false d = refl
    go true (yes g) = rw (drop-cons s end 0 g) (sym (ne_eqb end (length s) (λ e. omega arith)))
    go true (no g) =
        let l : length s ≤ end = omega arith in
        rw (drop_of_length-le s l) (sym (eq-eqb end (length s) (omega arith)))

-- ---- a flag to the end is the whole answer, for any test

module _ {A : Type 0} (test : A → Bool) where
  all_from : (ok : Bool) (s : List A) → fold (λ ok b. ok && test b) ok s ≡ (ok && all test s)
  all_from ok [] = sym (and-true ok)
  all_from ok (b ∷ s) = all_from (ok && test b) s ∙ and_assoc ok (test b) (all test s)

  pub flag_all : (s : List A) {r : Bool} → r ≡ fold (λ ok b. ok && test b) true s → Says (all test s) r
  flag_all s e = record { is = sym (e ∙ all_from true s) }

  any_from : (found : Bool) (s : List A) → fold (λ found b. found || test b) found s ≡ (found || any test s)
  any_from found [] = sym (or-false found)
  any_from found (b ∷ s) = any_from (found || test b) s ∙ or_assoc found (test b) (any test s)

  pub flag_any : (s : List A) {r : Bool} → r ≡ fold (λ found b. found || test b) false s → Says (any test s) r
  flag_any s e = record { is = sym (e ∙ any_from false s) }
