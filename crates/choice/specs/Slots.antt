-- The 99 slots of a price: three levels of 33 places, the unconditioned one and one for each granted name.
use Rattle.std.specs.Prelude.{ℕ, ◌/◌, ◌%◌, Bool, ◌&&◌, cond, List, eqb}
use Rattle.std.proofs.Math.Option.{Option, map}
use Rattle.rules.specs.Lists.{same, keep, gather}
use Rattle.rules.specs.Book.{Row, base, surcharge, discount}
use Rattle.rules.specs.Question.{Question}
use Rattle.rules.specs.Choice.{choose}
use Rattle.rules.specs.Lines.{Chosen}
use Rattle.grants.specs.Places as Grants

-- ---- which slot a row is of

-- one past the last level
abbrev pub no_level : ℕ
no_level = 3

unfoldable pub level_of : ℕ → ℕ
level_of l = cond (eqb l base) 0 (cond (eqb l surcharge) 1 (cond (eqb l discount) 2 no_level))

-- the row is of the asked article and sort, and stands at this level and place
unfoldable pub in_slot : Question → ℕ → ℕ → Row → Bool
in_slot q level place r =
    same r.article q.article && (eqb r.sort q.sort && (eqb (level_of r.level) level && eqb (Grants.place_of q.granted r.condition) place))

-- ---- what the slots choose

-- a row that is chosen at a place has the factor of the place
abbrev pub placed_row : Question → ℕ → Row → Chosen
placed_row q place r = record { place = place; factor = Grants.factor_of q.granted place; row = r }

unfoldable pub slot_chosen : List Row → Question → ℕ → ℕ → Option Chosen
slot_chosen rs q level place =
    map (placed_row q place) (choose q.date q.quantity q.currency (keep (in_slot q level place) rs))

-- slot i is of level i / 33 and place i % 33
unfoldable pub slots_chosen : List Row → Question → List Chosen
slots_chosen rs q = gather (λ i. slot_chosen rs q (i / 33) (i % 33)) (Grants.up_from 0 99)
