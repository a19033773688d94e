-- The bytes of a table: an entry compared with a name, and the entries walked one after the other.
use Prim.Native.Nat.{ℕ, suc, ◌+◌, ◌-◌, ◌*◌, ◌<◌, ◌≤◌}
use mathlib.Core.Path.{◌≡◌, sym, ◌∙◌, ap}
use mathlib.Core.Bool.{Bool, true, false, cond}
use mathlib.Core.List.{List}
use native.Mathlib.Omega.{arith}
use lib.ListN.{length, get_or, take, drop}
use borrow.Author.Tests.{eq-eqb, ne_eqb}
use Rattle.rules.specs.Lists.{same}
use Rattle.layout.specs.Ensures.{Says, Number}
use Rattle.grants.specs.Table.{entry_is, look_from}

-- ---- one entry

module _ (t : List ℕ) (i : ℕ) (c : List ℕ) where
  pub entry_other : {n top : ℕ} → Number (get_or t (23 * i) 0) top n → (n ≡ length c → ⊥) → Says (entry_is t i c) false
  unfolding entry_is
  entry_other p h = record { is = rw (ne_eqb (get_or t (23 * i) 0) (length c) (λ e. h (p.is ∙ e))) }

  pub entry_same : {n top : ℕ} {r : Bool} → Number (get_or t (23 * i) 0) top n → n ≡ length c
      → Says (same (take (23 * i + 3 + length c - (23 * i + 3)) (drop (23 * i + 3) t)) c) r → Says (entry_is t i c) r
  unfolding entry_is
  entry_same p h s = record { is = rw (eq-eqb (get_or t (23 * i) 0) (length c) (sym p.is ∙ h)) s.is }

-- ---- one after the other

-- i of n entries are passed, and the place is that among the others
pub record Looking (t : List ℕ) (n : ℕ) (c : List ℕ) (i : ℕ) : Type 0 where
  pub passed : i ≤ n
  pub rest : look_from t i (n - i) c ≡ look_from t 0 n c

module _ (t : List ℕ) (n : ℕ) (c : List ℕ) where
  pub look_start : Looking t n c 0
  look_start =
      let e : n - 0 ≡ n = omega arith in
      record { passed = omega arith; rest = rw e }

  module _ {i : ℕ} (inv : Looking t n c i) where
    module _ (h : i < n) {r : Bool} (p : Says (entry_is t i c) r) where
      step : look_from t 0 n c ≡ cond r (i + 1) (look_from t (i + 1) (n - (i + 1)) c)
      unfolding look_from
      step =
          let e : n - i ≡ suc (n - (i + 1)) = omega arith in
          sym inv.rest ∙ ap (λ (m : ℕ). look_from t i m c) e ∙ rw p.is

      pub look_found : n ≤ 32 → r ≡ true → Number (look_from t 0 n c) 34 (i + 1)
      look_found l e = record { is = sym (step ∙ rw e); below = omega arith }

      pub look_again : r ≡ false → Looking t n c (i + 1)
      look_again e = record { passed = omega arith; rest = sym (step ∙ rw e) }

    pub look_end : n ≤ i → Number (look_from t 0 n c) 34 33
    unfolding look_from
    look_end h =
        let e : n - i ≡ 0 = omega arith in
        record { is = sym (sym inv.rest ∙ ap (λ (m : ℕ). look_from t i m c) e); below = omega arith }
