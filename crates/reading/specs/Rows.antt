-- The records of a price file's rows while the names of their texts get numbers: a row that still waits for its number has kind 0, which no
-- record has.
use Rattle.std.specs.Prelude.{ℕ, ◌+◌, ◌≤◌, ◌≡◌, List, [], ◌∷◌, ◌++◌, cond, leb, length, drop, set}
use Rattle.rules.specs.Book.{Row}
use Rattle.rules.specs.RowBytes.{row_bytes}
use Rattle.rules.specs.PlacedRefusals.{Done, or_zero_at}
use Rattle.file_rules.specs.Fields.{lines_of}
use Rattle.file_rules.specs.PriceLine.{NamedRow}
use Rattle.file_rules.specs.PriceFile.{text_number, with_text, lines_from}
use Rattle.file_rules.proofs.NumberingLaws.{after}
use Rattle.price_line.specs.declared.PriceLine.{PriceLine}
use Rattle.price_line.specs.Line.{row_on}

-- the rows of a file, if it has no bad line
unfoldable pub rows_in : List ℕ → List NamedRow
rows_in file = or_zero_at [] (λ ls. ls) (lines_from 1 (lines_of file))

pub record Good (file : List ℕ) : Type 0 where
  pub is : lines_from 1 (lines_of file) ≡ Done (rows_in file)

-- ---- one row

unfoldable pub waiting : Row → List ℕ
waiting r = set (row_bytes (with_text 0 r)) 2 0

-- its text has number t, and the numbers up to c have been given
unfoldable pub record_at : ℕ → ℕ → Row → List ℕ
record_at c t r = cond (leb t c) (row_bytes (with_text t r)) (waiting r)

-- behind the names that were met, the number of a name
abbrev pub number_of : List (List ℕ) → List ℕ → ℕ
number_of met x = text_number (met ++ (x ∷ [])) x

-- ---- many

unfoldable pub records_at : ℕ → List (List ℕ) → List NamedRow → List ℕ
records_at c met [] = []
records_at c met (l ∷ ls) = record_at c (number_of met l.name) l.row ++ records_at c (after met l.name) ls

-- the names that were met in the end
unfoldable pub met_after : List (List ℕ) → List NamedRow → List (List ℕ)
met_after met [] = met
met_after met (l ∷ ls) = met_after (after met l.name) ls

-- ---- line by line

-- the line at `at` brings nothing, or this row; behind it the file goes on at `next`
pub record Skips (file : List ℕ) (at next : ℕ) : Type 0 where
  pub good : Good (drop next file)
  pub is : rows_in (drop at file) ≡ rows_in (drop next file)

pub record Brings (file : List ℕ) (at next : ℕ) (line : List ℕ) (r : PriceLine) : Type 0 where
  pub good : Good (drop next file)
  pub is : rows_in (drop at file) ≡ row_on line r ∷ rows_in (drop next file)

-- ---- all of them

-- From `to` on stands `under`, and where the records of the rows left, with numbers up to d, come there instead, it is what is wanted.
pub record Filling (file wanted : List ℕ) (d : ℕ) (out : List ℕ) (at to : ℕ) (met : List (List ℕ)) (under : List ℕ) : Type 0 where
  pub done : List ℕ
  pub tail : List ℕ
  pub good : Good (drop at file)
  pub is : out ≡ done ++ (under ++ tail)
  pub place : length done ≡ to
  pub long : length under ≡ length (records_at d met (rows_in (drop at file)))
  pub rest : done ++ (records_at d met (rows_in (drop at file)) ++ tail) ≡ wanted
  pub within : at ≤ length file + 1

-- a file without a bad line, with room for its records
pub record ToFill (file out : List ℕ) : Type 0 where
  pub good : Good file
  pub room : length (records_at 0 [] (rows_in file)) ≤ length out
