-- What a caller reads: the lines in the lent output, 16 bytes each, whose row a line is of, and a day's outcome in the answer.
use Rattle.std.specs.Prelude.{ℕ, zero, suc, ◌≡◌, List, [], ◌∷◌, map, ℤ, take, drop, get_or}
use Rattle.rules.specs.Bytes.{big, signed_of}
use Rattle.rules.specs.Book.{Record, Row}
use Rattle.rules.specs.Question.{Question}
use Rattle.rules.specs.Lines.{line_size}
use Rattle.rules.specs.Calendar.{Outcome}
use Rattle.rules.specs.declared.PriceAnswer.{PriceAnswer}
use Rattle.rules.proofs.RowLaws.{RowFor}

pub record WrittenLine : Type 0 where
  pub text : ℕ
  pub level : ℕ
  pub place : ℕ
  pub amount : ℤ
  pub factor : ℕ

-- the line in front: text number 4 bytes, level 1, place 1, amount 8, factor 2
abbrev pub line_in : List ℕ → WrittenLine
line_in bytes = record {
  text = big (take 4 bytes);
  level = get_or bytes 4 0;
  place = get_or bytes 5 0;
  amount = signed_of 8 (big (take 8 (drop 6 bytes)));
  factor = big (take 2 (drop 14 bytes));
}

-- the first n lines
abbrev pub lines_in : ℕ → List ℕ → List WrittenLine
lines_in zero bytes = []
lines_in (suc n) bytes = line_in bytes ∷ lines_in n (drop line_size bytes)

abbrev pub amounts_in : ℕ → List ℕ → List ℤ
amounts_in n bytes = map (λ l. l.amount) (lines_in n bytes)

-- a line that shows the text number and the level of a row that may stand behind it
pub record LineOf (book : List Record) (q : Question) (l : WrittenLine) : Type 0 where
  pub row : Row
  pub stands : RowFor book q l.place l.factor row
  pub text : l.text ≡ row.text
  pub level : l.level ≡ row.level

abbrev pub outcome_in : PriceAnswer → Outcome
outcome_in a = record { refusal = a.number; currency = a.currency; unit = a.unit }
