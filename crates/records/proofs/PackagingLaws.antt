-- Packaging records: values and units behind the presence byte, where the names end, and the packaging.
use Prim.Native.Nat.{ℕ, ◌+◌, ◌-◌, ◌≤◌, ◌<◌}
use mathlib.Core.Path.{◌≡◌, ◌∙◌, ap}
use mathlib.Core.List.{List, [], ◌∷◌}
use native.Mathlib.Omega.{arith}
use lib.ListN.{length, take, drop, get_or}
use lib.Seq.{drop-drop}
use lib.IntN.{ℤ}
use mir.Syntax.{w64}
use mir.Val.{to_z, of_z}
use Rattle.rules.specs.Book.{PackagingRecord}
use Rattle.rules.specs.BookLayout.{packaging_body}
use Rattle.layout.specs.Reads.{name_stop}
use Rattle.layout.specs.Ensures.{Number, SignedNumber}
use Rattle.layout.proofs.PartLaws.{take_front}
use Rattle.kinds.specs.Fields.{signed_at, second_stop, pack_at}
use Rattle.kinds.specs.Ensures.{Stands}
use Rattle.kinds.proofs.PartsLaws.{packaging_parts, body_ok}
use Rattle.records.specs.Asks.{OfKind, TwoNames}
use Rattle.records.specs.Ensures.{ValuesAre, UnitsAre, PackIs, pack_in}
use Rattle.records.proofs.FieldLaws.{kept_is, first_there, second_there, two_names}
use Rattle.records.proofs.BoundLaws.{in_bounds_lem}

-- ---- values and units
module _ (t : List ℕ) (p : ℕ) where
  abbrev Value : ℕ → ℤ → Type 0
  Value k z = SignedNumber (signed_at t (p + k)) 2147483648 z

  abbrev kept : ℤ → ℤ
  kept z = to_z w64 (of_z w64 z)

  pub values_are : {a b c d e f g h : ℤ} → Value 1 a → Value 5 b → Value 9 c → Value 13 d → Value 17 e → Value 21 f → Value 25 g → Value 29 h
      → ValuesAre t p (kept a ∷ kept b ∷ kept c ∷ kept d ∷ kept e ∷ kept f ∷ kept g ∷ kept h ∷ [])
  values_are a b c d e f g h = record { is = rw (kept_is a, kept_is b, kept_is c, kept_is d, kept_is e, kept_is f, kept_is g, kept_is h) }

  -- nine bytes or more from where the units start
  module _ {u : List ℕ} {n : ℕ} (h : 9 ≤ n) (e : u ≡ take n (drop (p + 33) t)) where
    three : (k m : ℕ) → k ≤ 6 → p + 33 + k ≡ m → take 3 (drop k u) ≡ take 3 (drop m t)
    three k m l i = rw e (take_front 3 k n (drop (p + 33) t) (omega arith) ∙ ap (take 3) (drop-drop k (p + 33) t) ∙ ap (λ (j : ℕ). take 3 (drop j t)) i)

    pub units_are : UnitsAre t p u
    units_are =
        let first : take 3 u ≡ take 3 (drop (p + 33) t) = three 0 (p + 33) (omega arith) (omega arith) in
        let second : take 3 (drop 3 u) ≡ take 3 (drop (p + 36) t) = three 3 (p + 36) (omega arith) (omega arith) in
        let third : take 3 (drop 6 u) ≡ take 3 (drop (p + 39) t) = three 6 (p + 39) (omega arith) (omega arith) in
        record { is = cc }

-- ---- where its names end
module _ {t : List ℕ} (p : OfKind 4 t) where
  stands : Stands packaging_body t 1 (second_stop t 1) 42 (PackagingRecord (pack_at t 1 (name_stop t 1) (second_stop t 1)))
  stands = packaging_parts t 1 (body_ok t 4 p.ok p.kind)

  pub packaging_first : 1 < length t
  packaging_first = first_there 4 p (λ a c. PackagingRecord (pack_at t 1 a c)) stands

  module _ {a x : ℕ} (e : Number (name_stop t 1) x a) where
    pub packaging_second : a < length t
    packaging_second = second_there 4 p (λ a c. PackagingRecord (pack_at t 1 a c)) stands e

    pub packaging_names : {c y : ℕ} → Number (name_stop t a) y c → TwoNames t a c 42 (PackagingRecord (pack_at t 1 a c))
    packaging_names g = two_names 4 p (λ a c. PackagingRecord (pack_at t 1 a c)) stands e g

-- ---- the packaging
module _ (t : List ℕ) (a p : ℕ) (here : TwoNames t a p 42 (PackagingRecord (pack_at t 1 a p))) where
  pub packaging_is : {values : List ℤ} {units : List ℕ} → ValuesAre t p values → UnitsAre t p units
      → PackIs t (record {
        article = record { at = 2; size = a - 2 };
        condition = record { at = a + 1; size = p - (a + 1) };
        present = get_or t p 0;
        values = values;
        units = units;
      })
  unfolding pack_at pack_in
  packaging_is v u = record {
    is = here.is ∙ rw (v.is, u.is);
    article_in_lem = omega (arith, here.low, here.middle, here.long);
    condition_in = omega (arith, here.middle, here.long);
    values_in = rw v.is (in_bounds_lem t (PackagingRecord (pack_at t 1 a p)) here.is).values_in;
  }
