-- How many bytes the properties of a question take at most, and what the bytes of a field are sure of.
use Prim.Native.Nat.{ℕ, zero, suc, ◌+◌, ◌*◌, ◌≤◌}
use mathlib.Core.Path.{◌≡◌, ap}
use mathlib.Core.List.{List, [], ◌∷◌}
use mathlib.Core.Option.{some, some-injective}
use native.Mathlib.Omega.{arith}
use native.Mathlib.Nat.{suc-mul, mul-le-mul_right}
use lib.ListN.{length, length-append}
use Rattle.rules.specs.Lists.{between, all}
use Rattle.rules.specs.Layout.{Layout, ◌such◌, byte, times}
use Rattle.rules.specs.Bytes.{one_of}
use Rattle.rules.specs.Question.{Property, value_byte, value_for, property}
use Rattle.rules.proofs.GivesLaws.{Gives, gives_such, gives_name}
use Rattle.rules.proofs.TestLaws.{between_high}
use Rattle.layout.proofs.LayoutLaws.{and_then_some}
use Rattle.question.proofs.RedateLaws.{Reading, reading_such, reading_byte, reading_one_of, reading_name}

-- a field's bytes, and what its value is sure of
pub reading_sure : {A : Type 0} {m : Layout A} {P : A → ℕ → Type 0} {Q : A → Type 0} → Reading m P → Gives m Q → Reading m (λ v k. P v k × Q v)
reading_sure l g = record {
  reads = λ s v t e.
      let r = l.reads s v t e in
      record { taken = r.taken; splits = r.splits; size = (r.size, g.sure s v t e); again = r.again };
}

-- at most n bytes are read
pub record Short {A : Type 0} (m : Layout A) (n : ℕ) : Type 0 where
  pub takes : (s : List ℕ) (v : A) (t : List ℕ) → m s ≡ some (v, t) → length s ≤ length t + n

short_reading : {A : Type 0} {m : Layout A} {P : A → ℕ → Type 0} (n : ℕ) → Reading m P → ((v : A) (k : ℕ) → P v k → k ≤ n) → Short m n
short_reading n l h = record {
  takes = λ s v t e.
      let r = l.reads s v t e in
      omega (arith, h v (length r.taken) r.size, ap length r.splits, length-append r.taken t);
}

short_value : (width : ℕ) → width ≤ 30 → (state : ℕ) → Short (value_for width state) 31
short_value width h zero =
    short_reading 31 (reading_such (reading_sure (reading_name 1 width) (gives_name 1 width)) (all value_byte))
    (λ v k p. omega (arith, h, p.0, between_high 1 width (length v) p.1))
short_value width h (suc state) =
    short_reading 31 (reading_sure (reading_name 0 0) (gives_name 0 0)) (λ v k p. omega (arith, p.0, between_high 0 0 (length v) p.1))

short_property : Short property 33
short_property = record {
  takes = λ s v t e.
      let x = and_then_some ((byte such between 1 30) s) _ e in
      let width : ℕ = x.0.0 in
      let y = and_then_some (one_of (0 ∷ 1 ∷ 2 ∷ []) x.0.1) _ x.2 in
      let state : ℕ = y.0.0 in
      let z = and_then_some (value_for width state y.0.1) _ y.2 in
      let wide = between_high 1 30 width ((gives_such byte (between 1 30)).sure s width x.0.1 x.1) in
      let one = (short_reading 1 (reading_such reading_byte (between 1 30)) (λ v k p. omega arith)).takes s width x.0.1 x.1 in
      let two = (short_reading 1 (reading_one_of (0 ∷ 1 ∷ 2 ∷ [])) (λ v k p. omega arith)).takes x.0.1 state y.0.1 y.1 in
      let three = (short_value width wide state).takes y.0.1 z.0.0 z.0.1 z.1 in
      let left : length z.0.1 ≡ length t = ap (λ (w : Property × List ℕ). length w.1) (some-injective _ (v, t) z.2) in
      omega (arith, one, two, three, left);
}

short_times : {A : Type 0} (m : Layout A) {k : ℕ} → Short m k → (n : ℕ) → Short (times n m) (n * k)
short_times m h zero = record { takes = λ s v t e. omega (arith, ap (λ w. length w.1) (some-injective ([], s) (v, t) e)) }
short_times m {k} h (suc n) = record {
  takes = λ s v t e.
      let x = and_then_some (m s) _ e in
      let y = and_then_some (times n m x.0.1) _ x.2 in
      let left = ap (λ w. length w.1) (some-injective (x.0.0 ∷ y.0.0, y.0.1) (v, t) y.2) in
      omega (arith, suc-mul n k, h.takes s x.0.0 x.0.1 x.1, (short_times m h n).takes x.0.1 y.0.0 y.0.1 y.1, left);
}

-- up to 32 properties
pub short_properties : (n : ℕ) → n ≤ 32 → Short (times n property) 1056
short_properties n h = record { takes = λ s v t e. omega (arith, (short_times property short_property n).takes s v t e, mul-le-mul_right 33 h) }
