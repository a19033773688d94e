-- Where the chosen rows stand in the book, one behind the other.
use Rattle.std.specs.Prelude.{ℕ, ◌+◌, ◌-◌, ◌/◌, ◌%◌, ◌≤◌, ◌<◌, ◌≡◌, cond, List, ◌++◌, length, get_or}
use Rattle.rules.specs.Lists.{gather}
use Rattle.rules.specs.Book.{Row}
use Rattle.rules.specs.Question.{Question}
use Rattle.rules.specs.Lines.{Chosen, chosen}
use Rattle.grants.specs.Table.{GrantsAre}
use Rattle.grants.specs.Places.{up_from}
use Rattle.choice.specs.declared.hands.Hand.{Hand}
use Rattle.choice.specs.declared.hands.Seen.{Seen}
use Rattle.choice.specs.Hands.{is_empty, RowThere}
use Rattle.choice.specs.Slots.{slot_chosen, slots_chosen}
use Rattle.choice.specs.Walk.{SlotsHold}

-- 1 where a row is in hand
pub record Counted (h : Hand) (n : ℕ) : Type 0 where
  pub is : n ≡ cond (is_empty h) 0 1
  pub most : n ≤ 1

-- to the next place of a level, or from the last granted name's to the next level
pub record StepIs (place names r : ℕ) : Type 0 where
  pub low : 1 ≤ r
  pub most : r ≤ 33
  pub near : place < names → r ≡ 1
  pub far : names ≤ place → r + names ≡ 33

pub record NextPlace (place names r : ℕ) : Type 0 where
  pub near : place < names → r ≡ place + 1
  pub far : names ≤ place → r ≡ 0

-- the k-th of the chosen rows stands at `at`, `place` brought it, and it names the rounding of this number
pub record Stands (b : List ℕ) (cs : List Chosen) (k at place number : ℕ) : Type 0 where
  pub one : Chosen
  pub is : get_or cs k one ≡ one
  pub there : RowThere b at one.row
  pub place_is : place ≡ one.place
  pub place_in : place ≤ 32
  pub number_is : number ≡ one.row.rounding

-- so it is with each of them, and there are n
pub record HeldAre (b : List ℕ) (cs : List Chosen) (ats places numbers : List ℕ) (n : ℕ) : Type 0 where
  pub count : length cs ≡ n
  pub each : (k : ℕ) → k < n → Stands b cs k (get_or ats k 0) (get_or places k 0) (get_or numbers k 0)

-- slots below i are gone through: these were chosen, and what is left chooses the others
pub record HeldSoFar (b : List ℕ) (rs : List Row) (q : Question) (ats places numbers : List ℕ) (n i : ℕ) : Type 0 where
  pub these : List Chosen
  pub are : HeldAre b these ats places numbers n
  pub goes : these ++ gather (λ k. slot_chosen rs q (k / 33) (k % 33)) (up_from i (99 - i)) ≡ slots_chosen rs q

-- for every question of so many names that the slots were filled for; the next slot is of this place
pub record Holding (slots : List Seen) (names : ℕ) (ats places numbers : List ℕ) (n i place : ℕ) : Type 0 where
  pub few : n ≤ i
  pub most : i ≤ 99
  pub place_is : place ≡ i % 33
  pub within : place ≤ names
  pub long : length ats ≡ 99
  pub wide : length places ≡ 99
  pub full : length numbers ≡ 99
  pub each : {b : List ℕ} {rs : List Row} (q : Question) → SlotsHold b rs q slots → length q.granted ≡ names → HeldSoFar b rs q ats places numbers n i

-- those that the definition chooses
pub record HeldIn (slots : List Seen) (names : ℕ) (ats places numbers : List ℕ) (n : ℕ) : Type 0 where
  pub few : n ≤ 99
  pub each : {b : List ℕ} {rs : List Row} (q : Question) → SlotsHold b rs q slots → length q.granted ≡ names → {table : List ℕ} → GrantsAre q.granted table
      → HeldAre b (chosen rs q) ats places numbers n
