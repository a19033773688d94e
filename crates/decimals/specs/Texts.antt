-- What functions that write text ask and ensure.
use Rattle.std.specs.Prelude.{ℕ, suc, ◌+◌, ◌^◌, ◌≤◌, ◌≡◌, ◌⊎◌, List, [], ◌∷◌, ◌++◌, length}
use Rattle.file_rules.specs.Fields.{semicolon}
use Rattle.file_rules.specs.Decimals.{digits_of, blank_zero}

-- a field and the semicolon behind it
unfoldable pub ended : List ℕ → List ℕ
ended s = s ++ (semicolon ∷ [])

-- the last k digits of n, where 0 is blank
unfoldable pub shown : ℕ → ℕ → List ℕ
shown k n = blank_zero (digits_of k) n

-- from `at` on there is room for these bytes
pub record RoomFor (out : List ℕ) (at : ℕ) (bytes : List ℕ) : Type 0 where
  pub room : at + length bytes ≤ length out

-- n has k digits at least, and fewer than `top` has
pub record Counting (n top k : ℕ) : Type 0 where
  pub before : ℕ
  pub is : k ≡ suc before
  pub power : top ≡ 10 ^ suc before
  pub low : (before ≡ 0) ⊎ (10 ^ before ≤ n)
  pub few : k ≤ 10
