-- The parts of a question: tests of its bytes, and its granted names at a place.
use Prim.Native.Nat.{ℕ, ◌+◌, ◌-◌, ◌≤◌, ◌<◌}
use mathlib.Core.Path.{◌≡◌, refl, sym, ◌∙◌, ap}
use mathlib.Core.Bool.{Bool, true, false, ◌&&◌, ◌||◌, and-true, and-false, and_assoc}
use mathlib.Core.List.{List, [], ◌∷◌}
use mathlib.Core.Logic.{◌⊎◌, inl, inr}
use native.Mathlib.Omega.{arith}
use native.Mathlib.Decide.{dec_lt}
use lib.Dec.{eqb, leb}
use lib.ListN.{length, take, drop, get_or}
use borrow.Author.Tests.{lt-ltb, le-ltb, lt-leb, ne_eqb, eq-eqb, eqb-true, eqb-false}
use Rattle.rules.specs.Lists.{any, between}
use Rattle.rules.specs.Bytes.{number, big}
use Rattle.rules.specs.Days.{is_day}
use Rattle.rules.specs.Book.{sale, purchase}
use Rattle.rules.specs.Question.{most_factor, factor_in, granted_in}
use Rattle.rules.proofs.TestLaws.{between_low, between_high, is_between}
use Rattle.rules.proofs.GivesLaws.{gives_factor, gives_granted}
use Rattle.layout.specs.Reads.{Reads, name_stop}
use Rattle.layout.specs.Ensures.{Says, Number, NameEnd}
use Rattle.layout.proofs.LayoutLaws.{then_reads, then_broken, such_reads, reads_as, give_reads, number_at_lem, number_cut, taken_are}
use Rattle.layout.proofs.ReadingLaws.{then_none, then_good}
use Rattle.layout.proofs.CountedLaws.{SomeEnd, CountedEnd, counted_any, ends_none}
use Rattle.layout.proofs.NameLaws.{name_cases}
use Rattle.layout.proofs.NameEndLaws.{name_any, name_ends, name_size}
use Rattle.question.specs.Asked.{NameStop, FactorIs, NextIs}
use Rattle.question.specs.Parts.{factor_at, granted_at, granted_stop, GrantEnds, GrantStands, currency_ok, terms_ok}

-- ---- tests

pub currency_is : (x y z : ℕ) {t u v : Bool} → Says (between 65 90 x) t → Says (between 65 90 y) u → Says (between 65 90 z) v
    → Says (currency_ok (x ∷ y ∷ z ∷ [])) (t && u && v || eqb x 0 && eqb y 0 && eqb z 0)
currency_is x y z p q r = record { is = rw (p.is, q.is, r.is) (simp (and_assoc, and-true)) }

pub terms_is : (s : List ℕ) (a : ℕ) {date quantity top top' : ℕ} {t₁ t₂ t₃ : Bool} → a + 12 ≤ length s
    → Number (big (take 4 (drop (a + 4) s))) top date → Number (big (take 4 (drop (a + 8) s))) top' quantity
    → Says (any (eqb (get_or s a 0)) (sale ∷ purchase ∷ [])) t₁ → Says (currency_ok (get_or s (a + 1) 0 ∷ get_or s (a + 2) 0 ∷ get_or s (a + 3) 0 ∷ [])) t₂ → t₃ ≡ is_day date
    → Says (terms_ok s a) (t₁ && t₂ && t₃ && leb 1 quantity && leb quantity 100000)
terms_is s a h n₁ n₂ e₁ e₂ e₃ = record { is = rw (taken_are s a 3 1 (omega arith), ← n₁.is, ← n₂.is, ← e₃, e₁.is, e₂.is) (simp and_assoc) }

-- ---- granted names

module _ (version : ℕ) (s : List ℕ) (at : ℕ) where
  -- where the name is good, what is behind it decides
  behind_name : {r : ℕ} {ok : Bool} → NameEnd 1 20 s at r → 1 ≤ r → Reads (factor_in version) s (name_stop s at) ok (factor_at version s (name_stop s at)) (granted_stop version s at)
      → Reads (granted_in version) s at ok (granted_at version s at) (granted_stop version s at)
  unfolding granted_at
  behind_name {r} {ok} p h f =
      reads_as (then_reads _ _ (name_ends p).reads (then_reads _ _ f give_reads)) (ap (λ (b : Bool). b && (ok && true)) (lt-ltb 0 r h) ∙ and-true ok) refl

  pub grant_nameless : {r : ℕ} → NameEnd 1 20 s at r → r < 1 → GrantEnds version s at 0
  grant_nameless {r} p h = ends_none (then_broken _ _ p.reads (le-ltb 0 r (omega arith)))

  module _ {r : ℕ} (p : NameEnd 1 20 s at r) (h : 1 ≤ r) where
    stop_is : r ≡ name_stop s at
    stop_is = (name_ends p).stops h

    -- ends there, having read no factor
    pub grant_plain : (version ≡ 2 → ⊥) → GrantEnds version s at r
    unfolding granted_stop
    grant_plain n =
        let e : eqb version 2 ≡ false = ne_eqb version 2 n in
        let f : Reads (factor_in version) s (name_stop s at) true (factor_at version s (name_stop s at)) (granted_stop version s at) =
        rw e (reads_as give_reads refl (omega arith)) in
        record {
          reads = reads_as (behind_name p h f) (sym (lt-ltb 0 r h)) refl;
          stops = λ g. stop_is ∙ rw e (omega arith);
          low = p.low;
          fits = p.fits;
        }

    module _ (two : version ≡ 2) where
      is_two : eqb version 2 ≡ true
      is_two = eq-eqb version 2 two

      pub grant_cut : length s - r < 2 → GrantEnds version s at 0
      grant_cut l = ends_none (then_none _ _ (name_ends p).reads (then_broken _ _ broken refl))
        where
          broken : Reads (factor_in version) s (name_stop s at) false (big []) 0
          broken = rw is_two (such_reads (number 2) (between 0 most_factor) (number_cut s (name_stop s at) 2 (omega (arith, stop_is, p.fits)) (omega (arith, stop_is, p.fits))))

      module _ (l : 2 ≤ length s - r) {n top : ℕ} (x : Number (big (take 2 (drop r s))) top n) where
        factor_reads : Reads (factor_in version) s (name_stop s at) (between 0 most_factor n) (factor_at version s (name_stop s at)) (granted_stop version s at)
        unfolding granted_stop
        factor_reads = rw (is_two, ← stop_is, x.is) (such_reads (number 2) (between 0 most_factor) (number_at_lem s r 2 (omega (arith, p.fits))))

        pub grant_high : most_factor < n → GrantEnds version s at 0
        grant_high g = ends_none (reads_as (behind_name p h factor_reads) (ap (λ (b : Bool). leb 0 n && b) (lt-leb n most_factor g) ∙ and-false (leb 0 n)) refl).is

        pub grant_good : n ≤ most_factor → GrantEnds version s at (r + 2)
        unfolding granted_stop
        grant_good g = record {
          reads = reads_as (behind_name p h factor_reads) (is_between 0 most_factor n (omega arith) g ∙ sym (lt-ltb 0 (r + 2) (omega arith))) refl;
          stops = λ z. rw is_two (omega (arith, stop_is));
          low = λ z. omega (arith, p.low h);
          fits = omega (arith, p.fits);
        }

-- it ends somewhere, or there is none
grant_any : (version : ℕ) (s : List ℕ) (at : ℕ) → SomeEnd (granted_in version) (granted_at version) (granted_stop version) s at
grant_any version s at = named (name_cases 1 20 s at)
  where
    r : ℕ
    r = name_stop s at

    n : ℕ
    n = big (take 2 (drop r s))

    itself : Number n (n + 1) n
    itself = record { is = refl; below = omega arith }

    high : NameEnd 1 20 s at r → version ≡ 2 → 2 ≤ length s - r → Dec (most_factor < n) → SomeEnd (granted_in version) (granted_at version) (granted_stop version) s at
    high p e l (yes g) = (0, grant_high version s at p (omega arith) e l itself g)
    high p e l (no g) = (r + 2, grant_good version s at p (omega arith) e l itself (omega arith))

    cut : NameEnd 1 20 s at r → version ≡ 2 → Dec (length s - r < 2) → SomeEnd (granted_in version) (granted_at version) (granted_stop version) s at
    cut p e (yes l) = (0, grant_cut version s at p (omega arith) e l)
    cut p e (no l) = high p e (omega arith) (dec_lt most_factor n)

    by : NameEnd 1 20 s at r → (b : Bool) → eqb version 2 ≡ b → SomeEnd (granted_in version) (granted_at version) (granted_stop version) s at
    by p true e = cut p (eqb-true version 2 e) (dec_lt (length s - r) 2)
    by p false e = (r, grant_plain version s at p (omega arith) (eqb-false version 2 e))

    named : NameEnd 1 20 s at 0 ⊎ NameEnd 1 20 s at r → SomeEnd (granted_in version) (granted_at version) (granted_stop version) s at
    named (inl p) = (0, grant_nameless version s at p (omega arith))
    named (inr p) = by p (eqb version 2) refl

pub granted_any : (version : ℕ) (s : List ℕ) (at : ℕ) → at ≤ length s → CountedEnd (granted_in version) (granted_at version) (granted_stop version) s at (at + 1) (get_or s at 0)
granted_any version s = counted_any (granted_in version) (granted_at version) (granted_stop version) s (λ at l. grant_any version s at)

-- ---- one that stands there

module _ (version : ℕ) {s : List ℕ} {at : ℕ} (p : GrantStands version s at) where
  standing_name : between 1 20 (get_or s at 0) ≡ true
  standing_name =
      let x = name_any 1 20 s at in
      name_size 1 20 (reads_as x.1.reads (then_good _ _ x.1.reads p.reads) refl) (omega (arith, p.low, p.fits))

  module _ {n top : ℕ} (size : Number (get_or s at 0) top n) where
    pub granted_stop_lem : NameStop version s at (at + 1 + n)
    unfolding granted_at granted_stop
    granted_stop_lem =
        record {
          is = rw size.is;
          low = omega (arith, between_low 1 20 (get_or s at 0) standing_name, size.is);
          high = omega (arith, between_high 1 20 (get_or s at 0) standing_name, size.is);
          fits = rw size.is p.fits;
          bytes = rw size.is;
        }

  -- its factor
  pub factor_most : (granted_at version s at).factor ≤ most_factor
  factor_most = (gives_granted version (gives_factor version)).sure (drop at s) (granted_at version s at) (drop (granted_stop version s at) s) p.reads.is

  module _ {r : ℕ} (stop : NameStop version s at r) where
    pub factor_room : version ≡ 2 → r + 2 ≤ length s
    factor_room e = rw (eq-eqb version 2 e) at stop.fits

    pub factor_is : {n top : ℕ} → version ≡ 2 → Number (big (take 2 (drop r s))) top n → FactorIs version s at n
    unfolding granted_at
    factor_is e x =
        let i : _ ≡ (granted_at version s at).factor = x.is ∙ rw (eq-eqb version 2 e, stop.is) in
        record { is = i; most = omega (arith, factor_most, i) }

    pub next_far : version ≡ 2 → NextIs version s at (r + 2)
    unfolding granted_stop
    next_far e = record { is = rw (eq-eqb version 2 e) (omega (arith, stop.is)); low = omega (arith, stop.low); fits = factor_room e }

    pub next_near : (version ≡ 2 → ⊥) → NextIs version s at r
    unfolding granted_stop
    next_near n =
        let e : eqb version 2 ≡ false = ne_eqb version 2 n in
        record { is = rw e (omega (arith, stop.is)); low = stop.low; fits = omega (arith, rw e at stop.fits) }
