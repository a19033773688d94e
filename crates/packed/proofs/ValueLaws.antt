-- The eight values: the sums of two records' fit, and are there one after the other.
use Prim.Native.Nat.{ℕ, ◌+◌, ◌^◌, ◌≤◌, ◌<◌}
use mathlib.Core.Path.{◌≡◌, refl, sym, ◌∙◌}
use mathlib.Core.List.{List, map}
use native.Mathlib.Omega.{arith}
use native.Mathlib.Decide.{dec_lt, ℕ_discrete}
use lib.Dec.{T, ltb}
use lib.IntN.{ℤ, pos, nat_abs, ◌+ℤ◌}
use lib.ListN.{length, get_or, set, replicate, length-set, get_or-eq_default}
use lib.Seq.{get_or-set_same, get_or-set_other, ext_get_or}
use mir.Syntax.{w64}
use mir.Val.{SFits, to_z, of_z}
use mir.ValLaws.{to_z-of_z}
use Rattle.integers.proofs.Signed.{within64, add64, abs_add}
use Rattle.rules.specs.BookLayout.{eight}
use Rattle.rules.proofs.PackagingLaws.{each_of_eight}
use Rattle.packed.specs.Sums.{most_before, AddableValues, ValuesAfter}

-- a number that is kept in eight bytes, and stays what it is if it is small enough
abbrev pub kept : ℤ → ℤ
kept z = to_z w64 (of_z w64 z)

pub kept_is : (z : ℤ) (most : ℕ) → nat_abs z ≤ most → T (ltb most (2 ^ 63)) → kept z ≡ z
kept_is z most h t = to_z-of_z w64 z (within64 z most h t)

-- the sums below i are there
pub record Summing (held new sums : List ℤ) (i : ℕ) : Type 0 where
  pub most : i ≤ 8
  pub long : length sums ≡ 8
  pub each : (k : ℕ) → k < i → get_or sums k (pos 0) ≡ get_or held k (pos 0) +ℤ get_or new k (pos 0)

pub sum_start : (held new : List ℤ) → Summing held new (replicate 8 (pos 0)) 0
sum_start held new = record { most = omega arith; long = refl; each = λ k l. absurd (omega arith) }

module _ (held new : List ℤ) (a : AddableValues held new) where
  sum_is : (i : ℕ) → kept (get_or held i (pos 0)) +ℤ kept (get_or new i (pos 0)) ≡ get_or held i (pos 0) +ℤ get_or new i (pos 0)
  sum_is i = rw (kept_is (get_or held i (pos 0)) most_before (a.held_in i) tt, kept_is (get_or new i (pos 0)) 10_000_000 (a.new_in i) tt)

  pub sum_fits : (i : ℕ) → SFits w64 (kept (get_or held i (pos 0)) +ℤ kept (get_or new i (pos 0)))
  sum_fits i = rw (sum_is i) (add64 (get_or held i (pos 0)) (get_or new i (pos 0)) most_before 10_000_000 (a.held_in i) (a.new_in i) tt)

  module _ {sums : List ℤ} {i : ℕ} (inv : Summing held new sums i) where
    pub sum_again : i < 8 → Summing held new (set sums i (kept (kept (get_or held i (pos 0)) +ℤ kept (get_or new i (pos 0))))) (i + 1)
    sum_again l = record {
      most = omega arith;
      long = length-set sums i z ∙ inv.long;
      each = λ k h. go k h (ℕ_discrete k i);
    }
      where
        z : ℤ
        z = kept (kept (get_or held i (pos 0)) +ℤ kept (get_or new i (pos 0)))

        go : (k : ℕ) → k < i + 1 → Dec (k ≡ i) → get_or (set sums i z) k (pos 0) ≡ get_or held k (pos 0) +ℤ get_or new k (pos 0)
        go k h (yes e) = rw e (get_or-set_same sums i z (pos 0) (omega (arith, inv.long)) ∙ to_z-of_z w64 _ (sum_fits i) ∙ sum_is i)
        go k h (no n) = get_or-set_other sums i k z (pos 0) n ∙ inv.each k (omega arith)

    pub sum_end : 8 ≤ i → ValuesAfter held new sums
    sum_end h = record { is = ext_get_or (pos 0) sums after inv.long same; near = λ k. near k (dec_lt k 8) }
      where
        after : List ℤ
        after = map (λ k. get_or held k (pos 0) +ℤ get_or new k (pos 0)) eight

        same : (k : ℕ) → k < length sums → get_or sums k (pos 0) ≡ get_or after k (pos 0)
        same k l =
            inv.each k (omega (arith, inv.long))
            ∙ sym (each_of_eight (λ k. get_or after k (pos 0) ≡ get_or held k (pos 0) +ℤ get_or new k (pos 0)) (refl, (refl, (refl, (refl, (refl, (refl, (refl, (refl, tt)))))))) k (omega (arith, inv.long)))

        near : (k : ℕ) → Dec (k < 8) → nat_abs (get_or sums k (pos 0)) ≤ nat_abs (get_or held k (pos 0)) + 10_000_000
        near k (yes l) = rw (inv.each k (omega arith)) (omega (arith, a.new_in k, abs_add (get_or held k (pos 0)) (get_or new k (pos 0))))
        near k (no n) = rw (get_or-eq_default sums (pos 0) {n = k} (omega (arith, inv.long))) (omega arith)
