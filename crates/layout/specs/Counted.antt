-- A count and that many values of one layout, one behind the other: where each of them stands, and where the last one ends.
use Rattle.std.specs.Prelude.{ℕ, zero, suc, ◌+◌, ◌-◌, ◌≤◌, ◌<◌, ◌≡◌, Bool, true, List, [], ◌∷◌, ltb, length, get_or}
use Rattle.rules.specs.Lists.{between}
use Rattle.rules.specs.Layout.{Layout, ◌>>=◌, ◌such◌, byte, times}
use Rattle.layout.specs.Reads.{Reads}

abbrev pub counted : {A : Type 0} → Layout A → Layout (List A)
counted m = do
  n ← byte such between 0 32
  times n m

-- ---- where values stand, by the value at a position and the position where it stops

module _ {A : Type 0} (value : List ℕ → ℕ → A) (stop : List ℕ → ℕ → ℕ) where
  -- n values from a position on, each where the one before it stops
  unfoldable pub values_at : List ℕ → ℕ → ℕ → List A
  values_at s at zero = []
  values_at s at (suc n) = value s at ∷ values_at s (stop s at) n

  -- those behind a count
  unfoldable pub counted_at : List ℕ → ℕ → List A
  counted_at s at = values_at s (at + 1) (get_or s at 0)

module _ (stop : List ℕ → ℕ → ℕ) where
  unfoldable pub stop_after : List ℕ → ℕ → ℕ → ℕ
  stop_after s at zero = at
  stop_after s at (suc n) = stop_after s (stop s at) n

  unfoldable pub counted_stop : List ℕ → ℕ → ℕ
  counted_stop s at = stop_after s (at + 1) (get_or s at 0)

module _ {A : Type 0} (m : Layout A) (value : List ℕ → ℕ → A) (stop : List ℕ → ℕ → ℕ) (s : List ℕ) (at : ℕ) where
  -- the value at `at` ends at `r`; 0: none
  pub record Ends (r : ℕ) : Type 0 where
    pub reads : Reads m s at (ltb 0 r) (value s at) (stop s at)
    pub stops : 0 < r → r ≡ stop s at
    pub low : 0 < r → at < r
    pub fits : r ≤ length s

  -- a value stands at `at`
  pub record Stands : Type 0 where
    pub reads : Reads m s at true (value s at) (stop s at)
    pub low : at < stop s at
    pub fits : stop s at ≤ length s

  -- of the values counted at `at`, n are left from `end` on: what they are decides about all
  pub record Left (end n : ℕ) : Type 0 where
    pub low : at < end
    pub fits : end ≤ length s
    pub ends : stop_after stop s end n ≡ counted_stop stop s at
    pub rest : (ok : Bool) → Reads (times n m) s end ok (values_at value stop s end n) (stop_after stop s end n)
        → Reads (counted m) s at ok (counted_at value stop s at) (counted_stop stop s at)

-- ---- values that are known to stand there

unfoldable pub AllStand : {A : Type 0} → Layout A → (List ℕ → ℕ → A) → (List ℕ → ℕ → ℕ) → List ℕ → ℕ → ℕ → Type 0
AllStand m value stop s at zero = Unit {0}
AllStand m value stop s at (suc n) = Stands m value stop s at × AllStand m value stop s (stop s at) n

-- n values stand one behind the other, the first at `at`
pub record Standing {A : Type 0} (m : Layout A) (value : List ℕ → ℕ → A) (stop : List ℕ → ℕ → ℕ) (s : List ℕ) (at n : ℕ) : Type 0 where
  pub fits : at ≤ length s
  pub each : AllStand m value stop s at n

module _ {A : Type 0} (m : Layout A) (value : List ℕ → ℕ → A) (stop : List ℕ → ℕ → ℕ) (s : List ℕ) (at n : ℕ) where
  -- the first of n values, and the others
  pub record Step : Type 0 where
    pub here : Stands m value stop s at
    pub rest : Standing m value stop s (stop s at) (n - 1)
    pub values : values_at value stop s at n ≡ value s at ∷ values_at value stop s (stop s at) (n - 1)

  -- n values are left from `at` on, and the last of them stops at `end`
  pub record Passing (end : ℕ) : Type 0 where
    pub left : Standing m value stop s at n
    pub ends : stop_after stop s at n ≡ end
