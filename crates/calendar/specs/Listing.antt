-- The stretches that a call asks for, before it is known whether they fit into the lent output.
use Rattle.std.specs.Prelude.{ℕ, zero, suc, ◌≤◌, ◌≡◌, cond, List, map, eqb, leb, length, take, get_or, set}
use Rattle.rules.specs.Refusals.{Result, done, refused}
use Rattle.rules.specs.Calendar.{Stretch, most_days}
use Rattle.rules.specs.declared.CalendarAnswer.{CalendarAnswer}
use Rattle.stretches.specs.declared.Stretch as Declared
use Rattle.stretches.specs.declared.Stretches.{Stretches}
use Rattle.calendar.specs.declared.listing.Listing.{Listing}
use Rattle.stretches.specs.Stretches.{as_stretch, no_stretch}

-- ---- as the code has it

abbrev pub stretches_in : Stretches → List Stretch
stretches_in r = map as_stretch (take r.n r.list)

abbrev pub listed : Listing → Result (List Stretch)
listed r = cond (eqb r.number 0) (done (stretches_in r.stretches)) (refused r.number)

-- `r` lists what it should, or refuses; nothing stands behind what is listed
pub record ListingIs (o : Result (List Stretch)) (r : Listing) : Type 0 where
  pub long : length r.stretches.list ≡ most_days
  pub few : r.stretches.n ≤ most_days
  pub behind : (i : ℕ) → r.stretches.n ≤ i → get_or r.stretches.list i no_stretch ≡ no_stretch
  pub empty : (r.number ≡ 0 → ⊥) → r.stretches.n ≡ 0
  pub is : o ≡ listed r

-- `r` refuses with this number
pub record Refused (number : ℕ) (r : Listing) : Type 0 where
  pub long : length r.stretches.list ≡ most_days
  pub few : r.stretches.n ≤ most_days
  pub behind : (i : ℕ) → r.stretches.n ≤ i → get_or r.stretches.list i no_stretch ≡ no_stretch
  pub empty : (r.number ≡ 0 → ⊥) → r.stretches.n ≡ 0
  pub is : listed r ≡ refused number

-- ---- whether they fit

unfoldable pub refusal_of : ℕ → ℕ → ℕ → ℕ
refusal_of listed size room = cond (eqb listed 0) (cond (leb size room) 0 7) listed

-- `r` is the number of the refusal, or 0
pub record RefusalIs (listed size room r : ℕ) : Type 0 where
  pub is : r ≡ refusal_of listed size room

-- what a caller reads of so much, where it fits or is refused
pub record AnswerIs (listed size room : ℕ) (r : CalendarAnswer) : Type 0 where
  pub refuses : (r.number ≡ 0 → ⊥) → r.length ≡ 0
  pub answers : r.number ≡ 0 → r.length ≡ size
  pub number : RefusalIs listed size room r.number

-- ---- as a list of records

-- the i-th stretch of a listing
abbrev pub stretch_of : Listing → ℕ → Declared.Stretch
stretch_of l i = get_or l.stretches.list i no_stretch

pub record StretchAt (l : Listing) (i : ℕ) (r : Declared.Stretch) : Type 0 where
  pub is : r ≡ stretch_of l i

-- how many are handed over, where there is room for so many
abbrev pub ListAnswer : Listing → ℕ → CalendarAnswer → Type 0
ListAnswer l room r = AnswerIs l.number l.stretches.n room r

-- the first n elements are what g says, and the others are as in ys
abbrev pub filled : List Declared.Stretch → (ℕ → Declared.Stretch) → ℕ → List Declared.Stretch
filled ys g zero = ys
filled ys g (suc i) = set (filled ys g i) i (g i)
