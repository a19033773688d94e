-- Values one after the other to the end of the bytes, and a value in a frame of given size.
use Prim.Native.Nat.{ℕ, zero, suc, ◌+◌, ◌≤◌, ◌<◌}
use mathlib.Core.Path.{◌≡◌, refl, ◌∙◌, ap}
use mathlib.Core.List.{List, [], ◌∷◌}
use mathlib.Core.Option.{Option, some, none, none-ne-some, some-injective}
use native.Mathlib.Omega.{arith}
use native.Mathlib.Nat.{not-suc-le-zero, le_refl}
use lib.ListN.{length, take, drop}
use Rattle.rules.specs.Layout.{Layout, and_then, give, bytes, to_end, repeated, framed, whole, back}
use Rattle.layout.proofs.LayoutLaws.{bytes_left, and_then_some, bytes_at}

module _ {A : Type 0} (m : Layout A) (shrinks : (s : List ℕ) (a : A) (t : List ℕ) → m s ≡ some (a, t) → length t < length s) where
  -- more turns than bytes change nothing
  turns : (n k : ℕ) (s : List ℕ) → length s ≤ n → length s ≤ k → to_end n m s ≡ to_end k m s
  turns zero zero [] h g = refl
  turns zero (suc k) [] h g = refl
  turns (suc n) zero [] h g = refl
  turns (suc n) (suc k) [] h g = refl
  turns zero k (b ∷ s) h g = absurd (not-suc-le-zero h)
  turns (suc n) zero (b ∷ s) h g = absurd (not-suc-le-zero g)
  turns (suc n) (suc k) (b ∷ s) h g = go (λ t h g. turns n k t h g) (m (b ∷ s)) refl
    where
      go : ((t : List ℕ) → length t ≤ n → length t ≤ k → to_end n m t ≡ to_end k m t)
          → (o : Option (A × List ℕ)) → m (b ∷ s) ≡ o
          → and_then o (λ a t. and_then (to_end n m t) λ rest. give (a ∷ rest)) ≡ and_then o (λ a t. and_then (to_end k m t) λ rest. give (a ∷ rest))
      go ih none e = refl
      go ih (some p) e =
          let l : length p.1 < length (b ∷ s) = shrinks (b ∷ s) p.0 p.1 e in
          ap (λ o. and_then o (λ rest. give (p.0 ∷ rest))) (ih p.1 (omega arith) (omega arith))

  -- the value in front, and those behind it
  pub repeated_step : (s : List ℕ) (a : A) (t : List ℕ) → m s ≡ some (a, t) → repeated m s ≡ and_then (repeated m t) (λ rest. give (a ∷ rest))
  repeated_step [] a t e = absurd (not-suc-le-zero (shrinks [] a t e))
  repeated_step (b ∷ s) a t e =
      let l : length t < length (b ∷ s) = shrinks (b ∷ s) a t e in
      ap (λ o. and_then o (λ a t. and_then (to_end (length s) m t) λ rest. give (a ∷ rest))) e
      ∙ ap (λ o. and_then o (λ rest. give (a ∷ rest))) (turns (length s) (length t) t (omega arith) (le_refl (length t)))

  pub repeated_broken : (b : ℕ) (s : List ℕ) → m (b ∷ s) ≡ none → repeated m (b ∷ s) ≡ none
  repeated_broken b s e = ap (λ o. and_then o (λ a t. and_then (to_end (length s) m t) λ rest. give (a ∷ rest))) e

-- ---- frames

back_left : {A : Type 0} (o : Option A) (s : List ℕ) {y : A × List ℕ} → back o s ≡ some y → s ≡ y.1
back_left none s {y} e = absurd (none-ne-some y e)
back_left (some a) s {y} e = ap (λ p. p.1) (some-injective (a, s) y e)

pub framed_left : {A : Type 0} (n : ℕ) (m : Layout A) (s : List ℕ) {y : A × List ℕ} → framed n m s ≡ some y → length s ≡ n + length y.1
framed_left n m s {y} e =
    let x = and_then_some (bytes n s) (λ t. back (whole m t)) e in
    bytes_left n s x.1 ∙ ap (λ t. n + length t) (back_left (whole m x.0.0) x.0.1 x.2)

pub framed_at : {A : Type 0} (n : ℕ) (m : Layout A) (s : List ℕ) (at : ℕ) → at + n ≤ length s → framed n m (drop at s) ≡ back (whole m (take n (drop at s))) (drop (at + n) s)
framed_at n m s at h = ap (λ o. and_then o (λ t. back (whole m t))) (bytes_at s at n h).is
