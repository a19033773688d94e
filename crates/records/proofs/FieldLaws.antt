-- What the kinds have in common: signed numbers that fit, the kind byte, the first name, and two names in front.
use Prim.Native.Nat.{ℕ, zero, suc, ◌≤◌, ◌<◌}
use mathlib.Core.Path.{◌≡◌, refl, sym, ◌∙◌, ap}
use mathlib.Core.Bool.{Bool, true, false, not, false≢true}
use mathlib.Core.List.{List}
use mathlib.Core.Option.{Option, some, none}
use native.Mathlib.Omega.{arith}
use native.Mathlib.Decide.{ℕ_discrete}
use lib.Dec.{T, eqb}
use lib.ListN.{length, get_or}
use lib.IntN.{ℤ}
use borrow.Author.Tests.{eq-eqb, ne_eqb}
use mir.Syntax.{w64}
use mir.Val.{to_z, of_z}
use mir.ValLaws.{to_z-of_z}
use Rattle.integers.proofs.Signed.{fits64}
use Rattle.rules.specs.Lists.{is_some, same}
use Rattle.rules.specs.Layout.{whole}
use Rattle.rules.specs.Book.{Record, ArticleRecord, PriceRecord, PackagingRecord, SchemeRecord}
use Rattle.rules.specs.BookLayout.{kinded, body}
use Rattle.layout.specs.Reads.{part, name_stop}
use Rattle.layout.specs.Ensures.{Number, SignedNumber, Says}
use Rattle.kinds.specs.Fields.{kind_of, second_stop, third_stop, article_at, row_at, pack_at, scheme_at}
use Rattle.kinds.specs.Ensures.{Stands}
use Rattle.kinds.proofs.PartsLaws.{record_long, record_is, body_ok, kind_of_lem, article_parts, price_parts, packaging_parts, scheme_parts}
use Rattle.records.specs.Asks.{Accepted, OfKind, TwoNames}
use Rattle.records.specs.Tests.{first_name, starts_with}

-- ---- numbers

-- a number of four bytes, kept in eight
pub kept_is : {z r : ℤ} → SignedNumber z 2147483648 r → to_z w64 (of_z w64 r) ≡ z
kept_is {r} p = to_z-of_z w64 r (fits64 r (omega (arith, p.within))) ∙ p.is

-- ---- the kind byte

pub kind_byte : (t : List ℕ) (r : Record) → whole kinded t ≡ some r → get_or t 0 0 ≡ kind_of r
kind_byte t r is = sym (kind_of_lem t r is (get_or t 0 0) refl)

-- a record of another kind fails a test that asks for this one
pub other_kind : (t : List ℕ) (k : ℕ) (f : Option Record → Bool) → ((r : Record) → (kind_of r ≡ k → ⊥) → f (some r) ≡ false)
    → Accepted t → (get_or t 0 0 ≡ k → ⊥) → f (whole kinded t) ≡ false
other_kind t k f fails p n = go (whole kinded t) refl
  where
    go : (o : Option Record) → whole kinded t ≡ o → f o ≡ false
    go none e = absurd (false≢true (sym (ap is_some e) ∙ p.ok))
    go (some r) e = fails r (λ i. n (kind_byte t r e ∙ i))

module _ {t : List ℕ} where
  pub accepted_long : Accepted t → 0 < length t
  accepted_long p = record_long t p.ok

  pub of_kind : {k : ℕ} → Accepted t → get_or t 0 0 ≡ k → OfKind k t
  of_kind p e = record { kind = e; ok = p.ok }

-- a test that fails on every other kind holds: it is this kind
pub told_kind : (t : List ℕ) (k : ℕ) {test r : Bool} → Accepted t → Says test r → r ≡ true → ((get_or t 0 0 ≡ k → ⊥) → Says test false) → OfKind k t
told_kind t k p q e fails = go (ℕ_discrete (get_or t 0 0) k)
  where
    go : Dec (get_or t 0 0 ≡ k) → OfKind k t
    go (yes i) = of_kind p i
    go (no n) = absurd (false≢true (sym (fails n).is ∙ (q.is ∙ e)))

-- ---- the first name

record Starts (t : List ℕ) : Type 0 where
  pub r : Record
  pub is : whole kinded t ≡ some r
  pub name : first_name r ≡ part t 2 (name_stop t 1)
  pub fits : name_stop t 1 ≤ length t

-- every kind but the third starts with one
starts : (t : List ℕ) (k : ℕ) → T (not (eqb k 3)) → OfKind k t → Starts t
unfolding article_at row_at pack_at scheme_at
starts t zero b p = absurd (false≢true (body_ok t 0 p.ok p.kind))
starts t (suc zero) b p =
    let s = article_parts t 1 (body_ok t 1 p.ok p.kind) in
    record {
      r = ArticleRecord (article_at t 1 (name_stop t 1) (second_stop t 1));
      is = record_is t 1 p.ok p.kind ∙ s.is;
      name = refl;
      fits = omega (arith, s.long);
    }
starts t (suc (suc zero)) b p =
    let s = price_parts t 1 (body_ok t 2 p.ok p.kind) in
    record {
      r = PriceRecord (row_at t 1 (name_stop t 1) (second_stop t 1));
      is = record_is t 2 p.ok p.kind ∙ s.is;
      name = refl;
      fits = omega (arith, s.long);
    }
starts t (suc (suc (suc zero))) b p = absurd b
starts t (suc (suc (suc (suc zero)))) b p =
    let s = packaging_parts t 1 (body_ok t 4 p.ok p.kind) in
    record {
      r = PackagingRecord (pack_at t 1 (name_stop t 1) (second_stop t 1));
      is = record_is t 4 p.ok p.kind ∙ s.is;
      name = refl;
      fits = omega (arith, s.long);
    }
starts t (suc (suc (suc (suc (suc zero))))) b p =
    let s = scheme_parts t 1 (body_ok t 5 p.ok p.kind) in
    record {
      r = SchemeRecord (scheme_at t 1 (name_stop t 1) (second_stop t 1) (third_stop t 1));
      is = record_is t 5 p.ok p.kind ∙ s.is;
      name = refl;
      fits = omega (arith, s.long);
    }
starts t (suc (suc (suc (suc (suc (suc k)))))) b p = absurd (false≢true (body_ok t (suc (suc (suc (suc (suc (suc k)))))) p.ok p.kind))

pub starts_not : (t : List ℕ) (k : ℕ) (name : List ℕ) → Accepted t → (get_or t 0 0 ≡ k → ⊥) → Says (starts_with k name (whole kinded t)) false
unfolding starts_with
starts_not t k name p n = record { is = other_kind t k (starts_with k name) (λ r i. rw (ne_eqb (kind_of r) k i)) p n }

-- where the test holds, the record is of the kind
pub starts_kind : {t : List ℕ} {k : ℕ} (name : List ℕ) {r : Bool} → Accepted t → Says (starts_with k name (whole kinded t)) r → r ≡ true → OfKind k t
starts_kind {t} {k} name p q e = told_kind t k p q e (starts_not t k name p)

module _ (t : List ℕ) (k : ℕ) (b : T (not (eqb k 3))) (p : Accepted t) where
  module _ (e : get_or t 0 0 ≡ k) where
    pub first_long : 1 < length t
    first_long = omega (arith, (starts t k b (of_kind p e)).fits)

    module _ {x end : ℕ} (n : Number (name_stop t 1) x end) where
      pub first_in : end ≤ length t
      first_in = omega (arith, n.is, (starts t k b (of_kind p e)).fits)

      pub starts_is : (name : List ℕ) {r : Bool} → Says (same (part t 2 end) name) r → Says (starts_with k name (whole kinded t)) r
      unfolding starts_with
      starts_is name q =
          let s = starts t k b (of_kind p e) in
          let i : kind_of s.r ≡ k = sym (kind_byte t s.r s.is) ∙ e in
          record { is = rw (s.is, eq-eqb (kind_of s.r) k i, s.name, ← n.is) q.is }

-- ---- two names in front
module _ (k : ℕ) {t : List ℕ} (p : OfKind k t) (f : ℕ → ℕ → Record) {size : ℕ} (s : Stands (body k) t 1 (second_stop t 1) size (f (name_stop t 1) (second_stop t 1))) where
  pub first_there : 1 < length t
  first_there = omega (arith, s.long)

  module _ {a x : ℕ} (e : Number (name_stop t 1) x a) where
    pub second_there : a < length t
    second_there = omega (arith, e.is, s.long)

    pub two_names : {c y : ℕ} → Number (name_stop t a) y c → TwoNames t a c size (f a c)
    two_names g = record {
      low = omega (arith, e.is);
      middle = omega (arith, g.is);
      long = rw (g.is, e.is) s.long;
      is = rw (g.is, e.is) (record_is t k p.ok p.kind ∙ s.is);
    }
