-- The chosen rows by value: what a pick stands for, and how far they are gone through.
use Rattle.std.specs.Prelude.{ℕ, ◌≤◌, ◌<◌, ◌≡◌, List, map, length, get_or}
use Rattle.rules.specs.Book.{Row, rows, roundings}
use Rattle.rules.specs.Question.{Question}
use Rattle.rules.specs.Lines.{chosen}
use Rattle.rules.proofs.ListLaws.{All}
use Rattle.layout.specs.Records.{records_left}
use Rattle.lookup.specs.Roundings.{Found}
use Rattle.grants.specs.declared.terms.Terms.{Terms}
use Rattle.grants.specs.Table.{table_size, GrantsAre}
use Rattle.grants.specs.Places.{FactorAt}
use Rattle.grants.specs.Asks.{Asks}
use Rattle.survey.specs.declared.window.Window.{Window}
use Rattle.survey.specs.Window.{Windows}
use Rattle.choice.specs.declared.hands.Seen.{Seen}
use Rattle.choice.specs.Hands.{RowThere}
use Rattle.choice.specs.Walk.{SlotsHold}
use Rattle.lines.specs.declared.Pick.{Pick}
use Rattle.lines.specs.Views.{view_of, view_in, views_in, no_pick}
use Rattle.lines.specs.Ensures.{Sound}
use Rattle.picks.specs.declared.chosen.Picks.{Picks}

-- the window is that of some article and sort: the roundings in it are all of the book
pub record RoundingsIn (b : List ℕ) (w : Window) : Type 0 where
  pub article : List ℕ
  pub sort : ℕ
  pub window : Windows b 5 article sort w

-- ---- roundings

-- at `found` stands the rounding of the row at `at`
pub record RowFound (b : List ℕ) (at found : ℕ) : Type 0 where
  pub is : (r : Row) → RowThere b at r → Found b 5 r.rounding found

-- ---- picks

-- `p` is the row that stands there, brought by the granted name at `place`, with this factor
pub record RowPicked (b : List ℕ) (at place factor : ℕ) (p : Pick) : Type 0 where
  pub is : (r : Row) → RowThere b at r → view_in p ≡ view_of (roundings (records_left b 5)) (record { place = place; factor = factor; row = r })
  pub sound : Sound (view_in p)

-- the factor being that of the place in the table
pub record PlacePicked (b table : List ℕ) (at place : ℕ) (p : Pick) : Type 0 where
  pub factor : ℕ
  pub of_place : FactorAt table place factor
  pub picked : RowPicked b at place factor p

-- the rows at the first i of the places are picked
pub record PicksSoFar (b table ats places : List ℕ) (picks : List Pick) (i : ℕ) : Type 0 where
  pub long : length picks ≡ 99
  pub each : (k : ℕ) → k < i → PlacePicked b table (get_or ats k 0) (get_or places k 0) (get_or picks k no_pick)

-- a walk has filled the slots for some question of so many names, of which the table is, and the window is that of its article and sort
pub record Filled (b : List ℕ) (slots : List Seen) (names : ℕ) (table : List ℕ) (w : Window) : Type 0 where
  pub asked : Question
  pub holds : SlotsHold b (rows (records_left b 5)) asked slots
  pub few : names ≤ 32
  pub count : length asked.granted ≡ names
  pub long : length table ≡ table_size
  pub granted : GrantsAre asked.granted table
  pub window : Windows b 5 asked.article asked.sort w

-- the first n rows are those that the definition chooses
pub record PickedAre (b : List ℕ) (q : Question) (picks : List Pick) (n : ℕ) : Type 0 where
  pub few : n ≤ 99
  pub long : length picks ≡ 99
  pub is : views_in picks n ≡ map (view_of (roundings (records_left b 5))) (chosen (rows (records_left b 5)) q)
  pub sound : All Sound (views_in picks n)

-- `r` has the rows of the slots, for every question of so many names that they were filled for, if the table is of its names
pub record PicksFrom (b : List ℕ) (slots : List Seen) (names : ℕ) (table : List ℕ) (r : Picks) : Type 0 where
  pub each : (q : Question) → SlotsHold b (rows (records_left b 5)) q slots → length q.granted ≡ names → GrantsAre q.granted table
      → PickedAre b q r.rows r.n

-- so it is for every question that asks so
pub record PickedFor (b number table : List ℕ) (terms : Terms) (r : Picks) : Type 0 where
  pub of : (q : Question) → Asks q number table terms → PickedAre b q r.rows r.n
