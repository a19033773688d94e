-- A list of names, by the positions where each starts and ends in lent bytes.
use Rattle.std.specs.Prelude.{ℕ, ◌≤◌, ◌<◌, List, length, get_or}
use Rattle.layout.specs.Reads.{part}

-- name j of the list
abbrev pub name_at : List ℕ → List ℕ → List ℕ → ℕ → List ℕ
name_at s starts ends j = part s (get_or starts j 0) (get_or ends j 0)

-- the first n names, of at most 500, stand in s
pub record Listed (s starts ends : List ℕ) (n : ℕ) : Type 0 where
  pub few : n ≤ 500
  pub order : (j : ℕ) → j < n → get_or starts j 0 ≤ get_or ends j 0
  pub inside : (j : ℕ) → j < n → get_or ends j 0 ≤ length s
