-- "The price book": its records, each with the places in the book where it starts and ends.
use Rattle.std.specs.Prelude.{ℕ, ◌-◌, List, leb, length}
use Rattle.std.proofs.Math.Option.{Option, map}
use Rattle.rules.specs.Lists.{gather}
use Rattle.rules.specs.Layout.{Layout, ◌>>=◌, give, must, whole, repeated, left}
use Rattle.rules.specs.Bytes.{head}
use Rattle.rules.specs.Book.{Record}
use Rattle.rules.specs.BookLayout.{one_record, most_bytes}

-- what a record is or holds, the place of the first byte of its length, counted from 0, and the place behind its last byte
pub record Placed (A : Type 0) : Type 0 where
  pub start : ℕ
  pub stop : ℕ
  pub held : A

-- of `lent` bytes so many are left where it starts, and so many where it ends
abbrev pub placed_by : {A : Type 0} → ℕ → ℕ → ℕ → A → Placed A
placed_by lent ahead behind x = record { start = lent - ahead; stop = lent - behind; held = x }

abbrev pub placed : ℕ → Layout (Placed Record)
placed lent = do
  ahead ← left
  r ← one_record
  behind ← left
  give (placed_by lent ahead behind r)

abbrev pub placed_layout : ℕ → Layout (List (Placed Record))
placed_layout lent = do
  _ ← must (leb lent most_bytes)
  _ ← head lent
  repeated (placed lent)

-- the records of a book with their places, or nothing where the bytes are none
unfoldable pub placed_records : List ℕ → Option (List (Placed Record))
placed_records s = whole (placed_layout (length s)) s

-- something else at the same place
abbrev pub holding : {A B : Type 0} → Placed A → B → Placed B
holding p x = record { start = p.start; stop = p.stop; held = x }

-- those that can be read as something, where they stand: with `as_row` the price rows, each at the place of its record
abbrev pub placed_as : {A B : Type 0} → (A → Option B) → List (Placed A) → List (Placed B)
placed_as f ps = gather (λ p. map (holding p) (f p.held)) ps
