-- A property that stands there: what is known of it.
use Prim.Native.Nat.{ℕ, zero, suc, ◌+◌, ◌-◌, ◌≤◌, ◌<◌}
use mathlib.Core.Path.{refl}
use mathlib.Core.Bool.{true}
use mathlib.Core.List.{List, [], ◌∷◌}
use native.Mathlib.Omega.{arith}
use lib.Dec.{eqb}
use lib.ListN.{length, drop, get_or, length-drop}
use lib.Seq.{length-take-le}
use Rattle.rules.specs.Lists.{any, between}
use Rattle.rules.specs.Layout.{◌such◌, byte}
use Rattle.rules.specs.Bytes.{one_of}
use Rattle.rules.specs.Question.{property, value_for}
use Rattle.rules.proofs.TestLaws.{between_high}
use Rattle.layout.specs.Reads.{Reads}
use Rattle.layout.specs.Counted.{Stands}
use Rattle.layout.proofs.LayoutLaws.{such_reads, reads_as, byte_at, one_of_reads}
use Rattle.layout.proofs.ReadingLaws.{then_good, then_behind}
use Rattle.layout.proofs.NameEndLaws.{name_any, name_size}
use Rattle.properties.specs.Properties.{property_at, property_stop}
use Rattle.properties.proofs.PropertyLaws.{value_any}

-- ---- what is known of it

-- a value fits its property's width
short_value : (width state : ℕ) {s : List ℕ} {at r : ℕ} {v : List ℕ} → Reads (value_for width state) s at true v r → at < length s → get_or s at 0 ≤ width
short_value width zero {s} {at} p h =
    let x = name_any 1 width s at in
    between_high 1 width (get_or s at 0) (name_size 1 width (reads_as x.1.reads (then_good _ _ x.1.reads p) refl) h)
short_value width (suc state) {s} {at} p h = omega (arith, between_high 0 0 (get_or s at 0) (name_size 0 0 p h))

module _ {s : List ℕ} {at : ℕ} (p : Stands property property_at property_stop s at) where
  width_read : Reads (byte such between 1 30) s at (between 1 30 (get_or s at 0)) (get_or s at 0) (at + 1)
  width_read = such_reads byte (between 1 30) (byte_at s at (omega (arith, p.fits)))

  state_read : Reads (one_of (0 ∷ 1 ∷ 2 ∷ [])) s (at + 1) (any (eqb (get_or s (at + 1) 0)) (0 ∷ 1 ∷ 2 ∷ [])) (get_or s (at + 1) 0) (at + 2)
  state_read = one_of_reads s at (0 ∷ 1 ∷ 2 ∷ []) 1 (omega (arith, p.fits))

  -- its value has no more bytes than it is wide
  pub property_short : get_or s (at + 2) 0 ≤ get_or s at 0
  property_short =
      let x = value_any (get_or s at 0) (get_or s (at + 1) 0) s (at + 2) in
      let v = then_good _ _ x.1.reads (then_behind _ _ state_read (then_behind _ _ width_read p.reads)) in
      short_value (get_or s at 0) (get_or s (at + 1) 0) (reads_as x.1.reads v refl) (omega (arith, p.fits))

  pub property_fits : length (property_at s at).value ≤ (property_at s at).width
  property_fits =
      omega (arith, property_short, length-take-le (at + 2 + 1 + get_or s (at + 2) 0 - (at + 2 + 1)) (drop (at + 2 + 1) s) (rw length-drop (omega (arith, p.fits))))
