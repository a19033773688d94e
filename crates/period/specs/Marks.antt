-- Which days a record changes, and the marks that a walk over the records leaves.
use Rattle.std.specs.Prelude as Std
use Rattle.std.specs.Prelude.{Some, None, ℕ, ◌≤◌, ◌<◌, ◌≡◌, Bool, true, false, ◌&&◌, ◌||◌, List, eqb, length, get_or}
use Rattle.std.proofs.Math.Option.{Option}
use Rattle.rules.specs.Lists.{cons_some}
use Rattle.rules.specs.Days.{is_day, next}
use Rattle.rules.specs.Book.{Record}
use Rattle.rules.specs.Calendar.{most_days}
use Rattle.rules.specs.Changes.{is_change}
use Rattle.layout.specs.Records.{records_left, Between}
use Rattle.period.specs.declared.marks.Change.{Change}
use Rattle.period.specs.Positions.{Dates}

abbrev pub changes_on : Std.Option Change → ℕ → Bool
changes_on None d = false
changes_on (Some r) d = eqb d r.begins || eqb d r.over

-- a row of these dates, if they are days, begins or is over on these days
pub record DatesChange (from to : ℕ) (r : Std.Option Change) : Type 0 where
  pub is : (d : ℕ) → is_day d ≡ true → changes_on r d ≡ ((is_day from && is_day to) && (eqb d from || eqb d (next to)))

-- the days of change of a record, and then those of others
pub record RecordChanges (article : List ℕ) (sort : ℕ) (o : Option Record) (r : Std.Option Change) : Type 0 where
  pub is : (rest : List Record) (d : ℕ) → is_day d ≡ true
      → is_change (cons_some o rest) article sort d ≡ (changes_on r d || is_change rest article sort d)

-- ---- marks

-- d is marked where it stands among the dates
pub record DateMarked (dates : List ℕ) (d : ℕ) (old new : List Bool) : Type 0 where
  pub long : length new ≡ length old
  pub is : (i : ℕ) → i < length dates → get_or new i false ≡ (get_or old i false || eqb (get_or dates i 0) d)
  pub behind : (i : ℕ) → length dates ≤ i → get_or new i false ≡ get_or old i false

-- and so are the days of a change
pub record ChangeMarked (dates : List ℕ) (c : Std.Option Change) (old new : List Bool) : Type 0 where
  pub long : length new ≡ length old
  pub is : (i : ℕ) → i < length dates → get_or new i false ≡ (get_or old i false || changes_on c (get_or dates i 0))
  pub behind : (i : ℕ) → length dates ≤ i → get_or new i false ≡ get_or old i false

-- each date is marked if it is a day of change, and nothing behind the dates is
pub record MarksAre (w : List ℕ) (from : ℕ) (article : List ℕ) (sort : ℕ) (dates : List ℕ) (marks : List Bool) : Type 0 where
  pub long : length marks ≡ most_days
  pub is : (i : ℕ) → i < length dates → get_or marks i false ≡ is_change (records_left w from) article sort (get_or dates i 0)
  pub behind : (i : ℕ) → length dates ≤ i → get_or marks i false ≡ false

-- by the records before `at`; those from there on are still to come
pub record Marking (w : List ℕ) (from : ℕ) (article : List ℕ) (sort : ℕ) (dates : List ℕ) (marks : List Bool) (at : ℕ) : Type 0 where
  pub between : Between w at
  pub dates_are : Dates dates
  pub long : length marks ≡ most_days
  pub unmarked : (i : ℕ) → length dates ≤ i → get_or marks i false ≡ false
  pub is : (i : ℕ) → i < length dates
      → (get_or marks i false || is_change (records_left w at) article sort (get_or dates i 0)) ≡ is_change (records_left w from) article sort (get_or dates i 0)
