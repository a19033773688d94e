-- A set of places as the bits of a number, the lowest for place 1.
use Rattle.std.specs.Prelude.{ℕ, zero, suc, ◌-◌, ◌/◌, ◌%◌, ◌^◌, ◌≤◌, ◌≡◌, Bool, List, [], ◌∷◌, eqb, length}
use Rattle.std.specs.Int.Count.{ones}
use Rattle.rules.specs.Lists.{keep}

abbrev pub is_in : ℕ → ℕ → Bool
is_in set place = eqb (set / 2 ^ (place - 1) % 2) 1

-- the places from 1 to n, the highest first
abbrev pub places_to : ℕ → List ℕ
places_to zero = []
places_to (suc n) = suc n ∷ places_to n

-- those of them that are in the set
unfoldable pub members : ℕ → ℕ → List ℕ
members n set = keep (is_in set) (places_to n)

-- `r` is the number of ones in the set, and so of the places from 1 to 32 in it
pub record Counts (set r : ℕ) : Type 0 where
  pub is : r ≡ ones set
  pub places : r ≡ length (members 32 set)
  pub few : r ≤ 32
