-- Tests of single fields: what the code makes of a byte or two is what the definitions ask.
use Prim.Native.Nat.{ℕ, zero, suc, ◌+◌, ◌-◌, ◌≤◌, ◌<◌}
use mathlib.Core.Path.{◌≡◌, refl, sym, ◌∙◌}
use mathlib.Core.Bool.{Bool, false, ◌||◌, not, or-false, and-false}
use mathlib.Core.List.{List, [], ◌∷◌}
use native.Mathlib.Omega.{arith}
use native.Mathlib.Decide.{dec_lt}
use lib.Dec.{eqb}
use lib.ListN.{length, drop, length-drop}
use lib.Seq.{length-take-le}
use borrow.Author.Tests.{eq-eqb, ne_eqb}
use Rattle.rules.specs.Lists.{same}
use Rattle.rules.specs.Bytes.{signed_of, either_side}
use Rattle.rules.specs.BookLayout.{value_of, in_bounds, given}
use Rattle.layout.specs.Reads.{part}
use Rattle.layout.specs.Ensures.{Number, Says, NameEnd}
use Rattle.kinds.specs.Ensures.{trim_ok}

-- ---- a price's value

pub fixed_is : (fixed n : ℕ) {r : Bool} → Says (either_side 100_000_000 (signed_of 4 n)) r → (fixed ≡ 0 → ⊥) → Says (in_bounds (value_of fixed (signed_of 4 n))) r
fixed_is zero n p e = absurd (e refl)
fixed_is (suc fixed) n p e = record { is = p.is }

-- ---- a scheme's characters

-- ---- a scheme's separator

module _ (s : List ℕ) (c : ℕ) where
  pub one_byte_not : (length s ≡ 1 → ⊥) → Says (same s (c ∷ [])) false
  one_byte_not n = record { is = go s n }
    where
      go : (s : List ℕ) → (length s ≡ 1 → ⊥) → same s (c ∷ []) ≡ false
      go [] n = refl
      go (x ∷ []) n = absurd (n refl)
      go (x ∷ (y ∷ s)) n = and-false (eqb x c)

same_empty : (s : List ℕ) → same s [] ≡ eqb (length s) 0
same_empty [] = refl
same_empty (x ∷ s) = sym (ne_eqb (suc (length s)) 0 (λ i. omega arith))

pub trim_is : (s : List ℕ) (hidden unselected trim : ℕ) {x y : ℕ} {t u : Bool}
    → Number (given 45 hidden) 256 x → Says (same s (x ∷ [])) t → Number (given 88 unselected) 256 y → Says (same s (y ∷ [])) u
    → Says (trim_ok s hidden unselected trim) (eqb trim 0 || not (eqb (length s) 0 || (t || u)))
trim_is s hidden unselected trim n₁ e₁ n₂ e₂ = record { is = rw (same_empty s, ← n₁.is, ← n₂.is, e₁.is, e₂.is) (simp or-false) }

-- ---- a name's bytes

module _ {lo hi : ℕ} {s : List ℕ} {at r : ℕ} (p : NameEnd lo hi s at r) (h : 1 ≤ r) where
  pub name_low : at + 1 ≤ r
  name_low = omega (arith, p.low (omega arith))

  -- there are none where its end is its start
  pub name_empty : eqb (length (part s (at + 1) r)) 0 ≡ eqb (at + 1) r
  name_empty = go (dec_lt (at + 1) r)
    where
      l : length (part s (at + 1) r) ≡ r - (at + 1)
      l = length-take-le (r - (at + 1)) (drop (at + 1) s) (simp length-drop (omega (arith, p.fits)))

      go : Dec (at + 1 < r) → eqb (length (part s (at + 1) r)) 0 ≡ eqb (at + 1) r
      go (yes k) = ne_eqb (length (part s (at + 1) r)) 0 (λ i. omega (arith, l)) ∙ sym (ne_eqb (at + 1) r (λ i. omega arith))
      go (no k) = eq-eqb (length (part s (at + 1) r)) 0 (omega (arith, l)) ∙ sym (eq-eqb (at + 1) r (omega (arith, name_low)))
