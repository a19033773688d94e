-- What the first pass over a price file ensures.
use Rattle.std.specs.Prelude.{ℕ, suc, ◌+◌, ◌-◌, ◌≤◌, ◌≡◌, List, map, Bool, true, ◌&&◌, leb, length, drop, is_some}
use Rattle.std.specs.declared.option.Option.{Option}
use Rattle.std.specs.Option.{unwrap_or}
use Rattle.std.proofs.Math.Option.{some}
use Rattle.rules.specs.RowBytes.{rows_bytes}
use Rattle.file_rules.specs.Fields.{lines_of}
use Rattle.rules.specs.PlacedRefusals.{ResultAt, Done, RefusedAt, ◌>>=◌, unless_so}
use Rattle.file_rules.specs.PriceLine.{NamedRow, brought}
use Rattle.file_rules.specs.PriceFile.{lines_from, read_file, shown_read}
use Rattle.rules.specs.declared.PlacedAnswer.{PlacedAnswer}
use Rattle.rules.specs.Reasons.{number_for}
use Rattle.rules.specs.declared.Refusal.{Refusal}

-- the bytes of these rows; text numbers take as many, whichever they are
unfoldable pub sizes : List NamedRow → ℕ
sizes ls = length (rows_bytes (map (λ l. l.row) ls))

-- what the line brings, and how many bytes that is
pub record BroughtIs (line : List ℕ) (size : ℕ) : Type 0 where
  pub rows : List NamedRow
  pub is : brought line ≡ some rows
  pub long : sizes rows ≡ size

-- what is left, and whether it was enough
pub record Less (left : Option ℕ) (size : ℕ) (r : Option ℕ) : Type 0 where
  pub fits : is_some r ≡ (is_some left && leb size (unwrap_or left 0))
  pub is : unwrap_or r 0 ≡ unwrap_or left 0 - size

abbrev pub refused : Refusal → ℕ → PlacedAnswer
refused r p = record { length = 0; place = p; number = number_for r }

-- ---- what is left of the room behind the rows that lines bring

abbrev pub judged : Bool → ℕ → ResultAt (List NamedRow) → ResultAt ℕ
judged fits left (Done ls) = unless_so 7 (fits && leb (sizes ls) left) >>= λ _. Done (left - sizes ls)
judged fits left (RefusedAt n p) = RefusedAt n p

-- from `at` on, n lines having been judged, it comes to the same
pub record Judging (file : List ℕ) (room at n : ℕ) (left : Option ℕ) : Type 0 where
  pub is : judged true room (lines_from 1 (lines_of file)) ≡ judged (is_some left) (unwrap_or left 0) (lines_from (suc n) (lines_of (drop at file)))
  pub low : n ≤ at
  pub within : at ≤ length file + 1
  pub few : unwrap_or left 0 ≤ room

pub record AnswerIs (file : List ℕ) (room : ℕ) (r : PlacedAnswer) : Type 0 where
  pub is : r ≡ shown_read (read_file file room)
