-- Rounding records: the way, the rounding, its number alone, and the test by the kind byte.
use Prim.Native.Nat.{ℕ, ◌≤◌}
use mathlib.Core.Path.{◌≡◌, refl, sym, ◌∙◌, ap}
use mathlib.Core.Bool.{Bool, true, false, false≢true}
use mathlib.Core.List.{List}
use mathlib.Core.Option.{Option, some, none}
use native.Mathlib.Omega.{arith}
use lib.Dec.{T, eqb, leb, leb→le}
use lib.ListN.{length, get_or}
use lib.IntN.{ℤ}
use borrow.Author.Tests.{ne_eqb}
use mir.Syntax.{w64}
use mir.Val.{to_z, of_z}
use Rattle.std.specs.Prelude.{Some, None}
use Rattle.rules.specs.Lists.{if_some, is_some}
use Rattle.rules.specs.Layout.{whole}
use Rattle.rules.specs.Book.{Record, ArticleRecord, PriceRecord, RoundingRecord, PackagingRecord, SchemeRecord, as_rounding}
use Rattle.rules.specs.BookLayout.{kinded, rounding_body}
use Rattle.rules.specs.declared.Rounding.{Rounding}
use Rattle.rules.specs.declared.Way.{Way}
use Rattle.layout.specs.Ensures.{Number, SignedNumber, Says}
use Rattle.kinds.specs.Fields.{kind_of, number_at, signed_at, rounding_at}
use Rattle.kinds.specs.Ensures.{Stands}
use Rattle.kinds.proofs.PartsLaws.{rounding_parts, record_is, body_ok}
use Rattle.records.specs.Asks.{Accepted, OfKind}
use Rattle.records.specs.Tests.{is_rounding, rounding_number}
use Rattle.records.specs.Ensures.{WayIs, RoundingIs, NumberIs}
use Rattle.records.proofs.FieldLaws.{kept_is, kind_byte, told_kind}
use Rattle.records.proofs.BoundLaws.{in_bounds_lem}

-- ---- the rounding
module _ {t : List ℕ} (p : OfKind 3 t) where
  stands : Stands rounding_body t 1 1 15 (RoundingRecord (rounding_at t 1))
  stands = rounding_parts t 1 (body_ok t 3 p.ok p.kind)

  rounding_at_lem : whole kinded t ≡ some (RoundingRecord (rounding_at t 1))
  rounding_at_lem = record_is t 3 p.ok p.kind ∙ stands.is

  pub rounding_long : length t ≡ 16
  rounding_long = omega (arith, stands.long)

  pub rounding_room : (n : ℕ) → T (leb n 16) → n ≤ length t
  rounding_room n h = let l = leb→le n 16 h in omega (arith, rounding_long)

  pub rounding_is : {number step : ℕ} {before after : ℤ} {way : Way} → WayIs (get_or t 3 0) way
      → SignedNumber (signed_at t 8) 2147483648 before → SignedNumber (signed_at t 12) 2147483648 after
      → Number (number_at 2 t 1) 65536 number → Number (number_at 4 t 4) 4294967296 step
      → RoundingIs t (record {
        number = number;
        way = way;
        step = step;
        before = record { 0 = to_z w64 (of_z w64 before) };
        after = record { 0 = to_z w64 (of_z w64 after) };
      })
  unfolding rounding_at
  rounding_is w b a n s =
      rw (kept_is b, kept_is a, w.is, n.is, s.is) (record { is = rounding_at_lem; bounds = in_bounds_lem t (RoundingRecord (rounding_at t 1)) rounding_at_lem })

-- ---- whether a record is one

kind_three : (r : Record) → is_some (as_rounding r) ≡ eqb (kind_of r) 3
kind_three (ArticleRecord a) = refl
kind_three (PriceRecord r) = refl
kind_three (RoundingRecord r) = refl
kind_three (PackagingRecord p) = refl
kind_three (SchemeRecord s) = refl

pub rounding_told : (t : List ℕ) → Accepted t → Says (is_rounding (whole kinded t)) (eqb (get_or t 0 0) 3)
unfolding is_rounding
rounding_told t a = record { is = go (whole kinded t) refl }
  where
    go : (o : Option Record) → whole kinded t ≡ o → is_rounding o ≡ eqb (get_or t 0 0) 3
    go none e = absurd (false≢true (sym (ap is_some e) ∙ a.ok))
    go (some r) e = kind_three r ∙ ap (λ (k : ℕ). eqb k 3) (sym (kind_byte t r e))

-- ---- its number

-- a record that is told to be a rounding is one
pub told_rounding : {t : List ℕ} {r : Bool} → Accepted t → Says (is_rounding (whole kinded t)) r → r ≡ true → OfKind 3 t
told_rounding {t} a s e = told_kind t 3 a s e (λ n. record { is = (rounding_told t a).is ∙ ne_eqb (get_or t 0 0) 3 n })

module _ (t : List ℕ) where
  pub number_none : {r : Bool} → Says (is_rounding (whole kinded t)) r → r ≡ false → NumberIs (whole kinded t) None
  unfolding rounding_number is_rounding
  number_none s e = record { is = go (whole kinded t) (s.is ∙ e); low = tt }
    where
      go : (o : Option Record) → is_rounding o ≡ false → 0 ≡ rounding_number o
      go none i = refl
      go (some r) i = none_read (as_rounding r) i
        where
          none_read : (x : Option Rounding) → is_some x ≡ false → 0 ≡ if_some x 0 (λ y. y.number)
          none_read none f = refl
          none_read (some y) f = absurd (false≢true (sym f))

  pub number_some : {x : ℕ} → OfKind 3 t → Number (number_at 2 t 1) 65536 x → NumberIs (whole kinded t) (Some x)
  unfolding rounding_number rounding_at
  number_some p q = record {
    is = rw (rounding_at_lem p) q.is;
    low = omega (arith, q.is, (in_bounds_lem t (RoundingRecord (rounding_at t 1)) (rounding_at_lem p)).number_low);
  }

-- a record with a number is a rounding
pub number_kind : {t : List ℕ} {n : ℕ} → Accepted t → NumberIs (whole kinded t) (Some n) → OfKind 3 t
unfolding rounding_number is_rounding
number_kind {t} {n} a q = told_rounding {r = true} a (record { is = go (whole kinded t) q.is }) refl
  where
    go : (o : Option Record) → n ≡ rounding_number o → is_rounding o ≡ true
    go none e = absurd (omega (arith, q.low, e))
    go (some r) e = some_read (as_rounding r) e
      where
        some_read : (x : Option Rounding) → n ≡ if_some x 0 (λ y. y.number) → is_some x ≡ true
        some_read none f = absurd (omega (arith, q.low, f))
        some_read (some y) f = refl
