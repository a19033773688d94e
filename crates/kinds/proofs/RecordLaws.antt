-- A record by its kind byte: what it is, and that there is no other kind.
use Prim.Native.Nat.{ℕ, zero, suc, ◌≤◌, ◌<◌}
use mathlib.Core.Path.{◌≡◌, refl, ◌∙◌, ap}
use mathlib.Core.Bool.{Bool, false}
use mathlib.Core.List.{List}
use native.Mathlib.Omega.{arith}
use lib.ListN.{length, drop, get_or}
use Rattle.rules.specs.Lists.{is_some}
use Rattle.rules.specs.Layout.{byte, whole, wholly}
use Rattle.rules.specs.BookLayout.{kinded, body}
use Rattle.layout.specs.Ensures.{Accepts}
use Rattle.pairs.specs.Pairs.{Names}
use Rattle.pairs.proofs.PairLaws.{no_names}
use Rattle.layout.proofs.LayoutLaws.{then_rest, byte_at}

module _ (s : List ℕ) where
  module _ (h : 1 ≤ length s) where
    pub kind_is : (k : ℕ) → get_or s 0 0 ≡ k → whole kinded s ≡ whole (body k) (drop 1 s)
    kind_is k e = ap wholly (then_rest byte body (byte_at s 0 (omega arith)) refl) ∙ ap (λ (k : ℕ). whole (body k) (drop 1 s)) e

    pub kind_any : (k : ℕ) {r : Bool} → get_or s 0 0 ≡ k → Accepts (whole (body k) (drop 1 s)) r → Accepts (whole kinded s) r
    kind_any k e p = record { is = ap is_some (kind_is k e) ∙ p.is }

    -- every kind but a rounding begins with two names, a scheme with short ones
    pub kind_nameless : {r : ℕ} → (get_or s 0 0 ≡ 3 → ⊥) → Names s 1 r → r < 1 → Accepts (whole kinded s) false
    kind_nameless {r} three p h = go (get_or s 0 0) refl
      where
        go : (k : ℕ) → get_or s 0 0 ≡ k → Accepts (whole kinded s) false
        go zero e = record { is = ap is_some (kind_is 0 e) }
        go (suc zero) e = kind_any 1 e (no_names p 40 20 (omega arith) (omega arith) _ h)
        go (suc (suc zero)) e = kind_any 2 e (no_names p 40 20 (omega arith) (omega arith) _ h)
        go (suc (suc (suc zero))) e = absurd (three e)
        go (suc (suc (suc (suc zero)))) e = kind_any 4 e (no_names p 40 20 (omega arith) (omega arith) _ h)
        go (suc (suc (suc (suc (suc zero))))) e = kind_any 5 e (no_names p 20 8 (omega arith) (omega arith) _ h)
        go (suc (suc (suc (suc (suc (suc k)))))) e = record { is = ap is_some (kind_is (suc (suc (suc (suc (suc (suc k)))))) e) }
