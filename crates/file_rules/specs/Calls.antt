-- What the price file's two calls hand out: the answer, and what is then in the lent output.
use Rattle.std.specs.Prelude.{ℕ, ◌≡◌, List, length}
use Rattle.rules.specs.declared.PlacedAnswer.{PlacedAnswer}
use Rattle.file_rules.specs.PriceFile.{read_file, shown_read, lent_after_read, write_file, shown_write, lent_after_write}

-- the reader, on a file
pub record ReadIs (file lent : List ℕ) (r : PlacedAnswer) (after : List ℕ) : Type 0 where
  pub answer : r ≡ shown_read (read_file file (length lent))
  pub output : after ≡ lent_after_read (read_file file (length lent)) lent

-- the writer, on a book
pub record WriteIs (book lent : List ℕ) (r : PlacedAnswer) (after : List ℕ) : Type 0 where
  pub answer : r ≡ shown_write (write_file book (length lent))
  pub output : after ≡ lent_after_write (write_file book (length lent)) lent
