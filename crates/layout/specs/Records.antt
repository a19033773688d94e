-- What stands at the positions of a book: a record from its length on, the records that are left, and where a pass over them stands.
use Rattle.std.specs.Prelude.{ℕ, ◌+◌, ◌≤◌, ◌<◌, ◌≡◌, true, List, [], length, take, drop}
use Rattle.std.proofs.Math.Option.{Option, some, none}
use Rattle.rules.specs.Lists.{is_some}
use Rattle.rules.specs.Layout.{whole, repeated}
use Rattle.rules.specs.Bytes.{big}
use Rattle.rules.specs.Book.{Record}
use Rattle.rules.specs.BookLayout.{kinded, one_record, records}
use Rattle.layout.specs.Reads.{part}

-- ---- records

-- what the record from `at` to `end` holds
unfoldable pub record_in : List ℕ → ℕ → ℕ → Option Record
record_in b at end = whole kinded (part b (at + 2) end)

-- where a record ends, by its length
abbrev pub record_stop : List ℕ → ℕ → ℕ
record_stop b at = at + 2 + big (take 2 (drop at b))

-- the records from `at` to the end
unfoldable pub records_from : List ℕ → ℕ → Option (List Record)
records_from b at = whole (repeated one_record) (drop at b)

abbrev pub listed : Option (List Record) → List Record
listed none = []
listed (some rs) = rs

-- those of a book, and of a book those from `at` on
abbrev pub records_of : List ℕ → List Record
records_of b = listed (records b)

abbrev pub records_left : List ℕ → ℕ → List Record
records_left b at = listed (records_from b at)

-- ---- of an accepted book

-- an accepted record stands at `at`
pub record RecordHere (b : List ℕ) (at : ℕ) : Type 0 where
  pub fits : record_stop b at ≤ length b
  pub ok : is_some (whole kinded (part b (at + 2) (record_stop b at))) ≡ true

-- `r` is where it ends
pub record StopIs (b : List ℕ) (at r : ℕ) : Type 0 where
  pub is : r ≡ record_stop b at
  pub low : at + 2 < r
  pub fits : r ≤ length b
  pub ok : is_some (whole kinded (part b (at + 2) r)) ≡ true

-- a pass stands at `at`, between two records or at an end
pub record Between (b : List ℕ) (at : ℕ) : Type 0 where
  pub low : 5 ≤ at
  pub fits : at ≤ length b
  pub ok : is_some (records_from b at) ≡ true
