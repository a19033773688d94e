-- The granted names that brought no line, by the places of the lines alone, and how their set is built.
use Rattle.std.specs.Prelude.{ℕ, ◌+◌, ◌-◌, ◌^◌, ◌≤◌, ◌<◌, ◌≡◌, Bool, false, not, cond, List, eqb, length, get_or}
use Rattle.rules.specs.Lists.{any, keep}
use Rattle.rules.specs.Question.{Granted, Grant, grants}
use Rattle.rules.specs.Price.{set_of}
use Rattle.grants.specs.Table.{GrantsAre}

-- the granted names of which no line has the place
unfoldable pub idle : List Granted → List ℕ → List Grant
idle granted places = keep (λ g. not (any (λ p. eqb p g.place) places)) (grants granted)

pub record UnusedIs (granted : List Granted) (places : List ℕ) (set : ℕ) : Type 0 where
  pub is : set ≡ set_of (idle granted places)

-- a flag for each number that a place can be: a line has it
pub record Brought (places : List ℕ) (flags : List Bool) : Type 0 where
  pub long : length flags ≡ 256
  pub each : (p : ℕ) → p < 256 → get_or flags p false ≡ any (λ x. eqb x p) places

-- `r` is the set of unused names, for the names that the table is of and the places that the flags are of
pub record IdleIs (table : List ℕ) (flags : List Bool) (r : ℕ) : Type 0 where
  pub of : (names : List Granted) → GrantsAre names table → (places : List ℕ) → Brought places flags → UnusedIs names places r

-- ---- on the way

-- a place above all that are in the set
pub record Above (set place : ℕ) : Type 0 where
  pub low : 1 ≤ place
  pub high : place ≤ 32
  pub above : set < 2 ^ (place - 1)

-- the set once a place has come in, or has not
pub record SetAfter (set place : ℕ) (comes : Bool) (r : ℕ) : Type 0 where
  pub is : r ≡ cond comes (2 ^ (place - 1) + set) set
