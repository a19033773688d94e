-- The days on which the price of an article can change: "Calendar" needs no other day priced than the first one and these.
use Rattle.std.specs.Prelude.{ℕ, Bool, ◌&&◌, List, [], ◌∷◌, eqb}
use Rattle.rules.specs.Lists.{same, any, keep}
use Rattle.rules.specs.Days.{is_day, next}
use Rattle.rules.specs.Book.{Record, Row, rows}

-- a row with a date that is no day is never chosen, so it changes nothing
abbrev pub dated : Row → Bool
dated r = is_day r.from && is_day r.to

-- the dated rows of an article and sort, whatever their level and condition
unfoldable pub moving_rows : List ℕ → ℕ → List Row → List Row
moving_rows article sort rs = keep dated (keep (λ r. same r.article article && eqb r.sort sort) rs)

-- a row begins to hold on its first day, and holds no longer on the day after its last
unfoldable pub days_of_change : List Row → List ℕ
days_of_change [] = []
days_of_change (r ∷ rs) = r.from ∷ next r.to ∷ days_of_change rs

unfoldable pub changes : List Record → List ℕ → ℕ → List ℕ
changes book article sort = days_of_change (moving_rows article sort (rows book))

-- whether the price of an article and sort can change on that day
unfoldable pub is_change : List Record → List ℕ → ℕ → ℕ → Bool
is_change book article sort d = any (eqb d) (changes book article sort)
