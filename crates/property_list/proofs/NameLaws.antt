-- Names compared, small letters as capitals, byte by byte.
use Prim.Native.Nat.{ℕ}
use mathlib.Core.Path.{◌≡◌, refl, ap}
use mathlib.Core.Bool.{Bool, false, ◌&&◌}
use mathlib.Core.List.{List, [], ◌∷◌, map}
use native.Mathlib.Omega.{arith}
use lib.Dec.{eqb}
use lib.ListN.{length, length-map}
use Rattle.std.specs.List.{list_all, zip}
use Rattle.rules.specs.Lists.{same}
use Rattle.rules.specs.Bytes.{raise}
use Rattle.layout.specs.Ensures.{Says}
use Rattle.layout.proofs.NameLaws.{compare_not}

module _ (a b : List ℕ) where
  pub raised_not : (length a ≡ length b → ⊥) → Says (same (map raise a) (map raise b)) false
  raised_not n = compare_not (map raise a) (map raise b) (rw (length-map a raise, length-map b raise) n)

raised_same : (a b : List ℕ) → length a ≡ length b → list_all (λ (p : ℕ × ℕ). eqb (raise p.0) (raise p.1)) (zip a b) ≡ same (map raise a) (map raise b)
raised_same [] [] e = refl
raised_same [] (y ∷ b) e = absurd (omega arith)
raised_same (x ∷ a) [] e = absurd (omega arith)
raised_same (x ∷ a) (y ∷ b) e = ap (λ t. eqb (raise x) (raise y) && t) (raised_same a b (omega arith))

pub raised_all : (a b : List ℕ) → length a ≡ length b → {r : Bool} → r ≡ list_all (λ (p : ℕ × ℕ). eqb (raise p.0) (raise p.1)) (zip a b) → Says (same (map raise a) (map raise b)) r
raised_all a b e f = record { is = rw (f, raised_same a b e) }
