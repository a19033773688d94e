-- Request 2, "Read the manufacturer's own price file": the call that reads it to price records, and the call that writes it from a book.
use Rattle.std.specs.Prelude.{ℕ, suc, ◌+◌, Bool, true, ◌&&◌, not, cond, List, [], ◌∷◌, ◌++◌, map, eqb, leb, length}
use Rattle.std.proofs.Math.Option.{Option, some, none}
use Rattle.rules.specs.Lists.{same, keep, first, if_some, join}
use Rattle.rules.specs.Letters.{text}
use Rattle.rules.specs.Book.{Row, as_row}
use Rattle.rules.specs.RowBytes.{rows_bytes}
use Rattle.rules.specs.Placed.{Placed, placed_records, placed_as}
use Rattle.rules.specs.PlacedRefusals.{ResultAt, Done, ◌>>=◌, or_refuse_at, unless_at, unless_so, number_at, place_at, or_zero_at, lent_after_at}
use Rattle.file_rules.specs.Fields.{lines_of}
use Rattle.file_rules.specs.PriceLine.{NamedRow, brought, is_empty, line_text}
use Rattle.rules.specs.declared.PlacedAnswer.{PlacedAnswer}

-- ---- text names become numbers

-- in order of first appearance, each once
unfoldable pub distinct : List (List ℕ) → List (List ℕ)
distinct [] = []
distinct (x ∷ xs) = x ∷ keep (λ y. not (same y x)) (distinct xs)

-- the names of texts in a file, without blank ones
unfoldable pub text_names : List NamedRow → List (List ℕ)
text_names ls = distinct (keep (λ x. not (is_empty x)) (map (λ l. l.name) ls))

-- the place of a name among these, from 1
unfoldable pub place_in : List (List ℕ) → List ℕ → ℕ
place_in [] x = 1
place_in (y ∷ ys) x = cond (same x y) 1 (suc (place_in ys x))

-- a blank name is 0
abbrev pub text_number : List (List ℕ) → List ℕ → ℕ
text_number names x = cond (is_empty x) 0 (place_in names x)

abbrev pub with_text : ℕ → Row → Row
with_text n r =
    record {
      article = r.article;
      condition = r.condition;
      sort = r.sort;
      level = r.level;
      rule = r.rule;
      text = n;
      value = r.value;
      currency = r.currency;
      from = r.from;
      to = r.to;
      up_to = r.up_to;
      rounding = r.rounding;
    }

abbrev pub numbered_by : List (List ℕ) → NamedRow → Row
numbered_by names l = with_text (text_number names l.name) l.row

unfoldable pub numbered : List NamedRow → List Row
numbered ls = map (numbered_by (text_names ls)) ls

-- such numbers run 1, 2, 3 and on by first appearance: none is more than one above the greatest before it, which is k at the start
unfoldable pub run_from : ℕ → List ℕ → Bool
run_from k [] = true
run_from k (t ∷ ts) = leb t (suc k) && run_from (cond (leb t k) k t) ts

abbrev pub texts : List Row → List ℕ
texts rs = map (λ r. r.text) rs

abbrev pub texts_run : List Row → Bool
texts_run rs = run_from 0 (texts rs)

-- ---- the reader: refusals 13, at the first bad line, and 7

-- what lines bring, of which the first is the n-th of its file
unfoldable pub lines_from : ℕ → List (List ℕ) → ResultAt (List NamedRow)
lines_from n [] = Done []
lines_from n (s ∷ ss) = do
  here ← or_refuse_at 13 n (brought s)
  behind ← lines_from (suc n) ss
  Done (here ++ behind)

unfoldable pub read_file : List ℕ → ℕ → ResultAt (List Row)
read_file file room = do
  ls ← lines_from 1 (lines_of file)
  let rs = numbered ls
  _ ← unless_so 7 (leb (length (rows_bytes rs)) room)
  Done rs

unfoldable pub shown_read : ResultAt (List Row) → PlacedAnswer
shown_read r = record { length = or_zero_at 0 (λ rs. length (rows_bytes rs)) r; place = place_at r; number = number_at r }

abbrev pub lent_after_read : ResultAt (List Row) → List ℕ → List ℕ
lent_after_read r lent = lent_after_at rows_bytes r lent

-- ---- the writer: refusals 1, 13, at the first record that no line can hold, and 7

-- a line names no rounding, and its dates have eight digits
abbrev pub fits_line : Row → Bool
fits_line r = eqb r.rounding 0 && (leb r.from 99_999_999 && leb r.to 99_999_999)

-- places of bytes count from 1: that of the record's first byte, which is of its length
abbrev pub first_unfit : List (Placed Row) → Option ℕ
first_unfit ps = if_some (first (λ p. not (fits_line p.held)) ps) none (λ p. some (p.start + 1))

unfoldable pub file_text : List Row → List ℕ
file_text rs = join (map (λ r. line_text r ++ text "\n") rs)

-- what is written of price rows that stand at places
abbrev pub written_of : ℕ → List (Placed Row) → ResultAt (List Row)
written_of room ps = do
  _ ← unless_at 13 (first_unfit ps)
  let rs = map (λ p. p.held) ps
  _ ← unless_so 7 (leb (length (file_text rs)) room)
  Done rs

unfoldable pub write_file : List ℕ → ℕ → ResultAt (List Row)
write_file book_bytes room = do
  book ← or_refuse_at 1 0 (placed_records book_bytes)
  written_of room (placed_as as_row book)

unfoldable pub shown_write : ResultAt (List Row) → PlacedAnswer
shown_write r = record { length = or_zero_at 0 (λ rs. length (file_text rs)) r; place = place_at r; number = number_at r }

abbrev pub lent_after_write : ResultAt (List Row) → List ℕ → List ℕ
lent_after_write r lent = lent_after_at file_text r lent
