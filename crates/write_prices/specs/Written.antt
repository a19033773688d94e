-- What the call that writes a price file ensures, and the walks of it.
use Rattle.std.specs.Prelude.{ℕ, List, [], map}
use Rattle.rules.specs.Lists.{if_some}
use Rattle.rules.specs.Book.{Record, Row, as_row}
use Rattle.rules.specs.Placed.{Placed, placed_records, placed_as}
use Rattle.file_rules.specs.PriceFile.{file_text}
use Rattle.rules.specs.declared.Refusal.{Refusal}
use Rattle.write_prices.specs.declared.Refused.{Refused}

-- the price rows among these records, where they stand; and those of a book
abbrev pub rows_among : List (Placed Record) → List (Placed Row)
rows_among ps = placed_as as_row ps

abbrev pub rows_of : List ℕ → List (Placed Row)
rows_of b = rows_among (if_some (placed_records b) [] (λ ps. ps))

-- the lines of these records
unfoldable pub lines_among : List (Placed Record) → List ℕ
lines_among ps = file_text (map (λ p. p.held) (rows_among ps))

-- the file of a book
unfoldable pub file_of : List ℕ → List ℕ
file_of b = file_text (map (λ p. p.held) (rows_of b))

-- a refusal for which no record is to blame
abbrev pub blameless : Refusal → Refused
blameless r = record { reason = r; place = 0 }
