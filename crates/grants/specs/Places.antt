-- Where a condition stands among the granted names, and which places are named first.
use Rattle.std.specs.Prelude.{ℕ, zero, suc, ◌≤◌, ◌<◌, ◌≡◌, Bool, cond, List, [], ◌∷◌, eqb, length}
use Rattle.rules.specs.Lists.{same, any}
use Rattle.rules.specs.Question.{Granted, Grant, grants, plain_factor, most_factor}
use Rattle.layout.specs.Ensures.{Number, Says}
use Rattle.grants.specs.Table.{GrantsAre, factor_among}

-- one past the last place
abbrev pub nowhere : ℕ
nowhere = 33

-- the place of the grant that has this name
unfoldable pub place_in : List Grant → List ℕ → ℕ
place_in [] c = nowhere
place_in (g ∷ gs) c = cond (same g.name c) g.place (place_in gs c)

-- a row without a condition is at place 0
unfoldable pub place_of : List Granted → List ℕ → ℕ
place_of names [] = 0
place_of names (b ∷ c) = place_in (grants names) (b ∷ c)

-- the name at this place is named there first
unfoldable pub is_first : List Granted → ℕ → Bool
is_first names place = any (λ g. eqb g.place place) (grants names)

-- the factor of a place: 1,000 at 0, from 1 on that of the name which is granted there
unfoldable pub factor_of : List Granted → ℕ → ℕ
factor_of names zero = plain_factor
factor_of names (suc i) = factor_among (suc i) (grants names)

-- n places from k on
abbrev pub up_from : ℕ → ℕ → List ℕ
up_from k zero = []
up_from k (suc n) = k ∷ up_from (suc k) n

-- `r` is the condition's place among the names that the table is of, of which there are n; whatever the table, it is a place or 33
pub record PlaceIs (table : List ℕ) (n : ℕ) (condition : List ℕ) (r : ℕ) : Type 0 where
  pub below : r < 34
  pub of : (names : List Granted) → GrantsAre names table → length names ≡ n → Number (place_of names condition) 34 r

-- `r` says whether the name at this place is named there first, for the names that the table is of
pub record FirstIs (table : List ℕ) (place : ℕ) (r : Bool) : Type 0 where
  pub of : (names : List Granted) → GrantsAre names table → Says (is_first names place) r

-- the table is of some names
pub record Granting (table : List ℕ) : Type 0 where
  pub names : List Granted
  pub are : GrantsAre names table

-- `r` is the factor of this place among the names that the table is of
pub record FactorAt (table : List ℕ) (place r : ℕ) : Type 0 where
  pub most : r ≤ most_factor
  pub of : (names : List Granted) → GrantsAre names table → r ≡ factor_of names place
