-- How the walks and the call end: with a number of bytes, or refused.
use Rattle.std.specs.Prelude.{ℕ, ◌≡◌, List, length, Result, Ok, Err}
use Rattle.std.proofs.Math.Option.{some, none}
use Rattle.rules.specs.Reasons.{number_for}
use Rattle.rules.specs.declared.PlacedAnswer.{PlacedAnswer}
use Rattle.rules.specs.declared.Refusal.TheVariants.{BadRow}
use Rattle.file_rules.specs.PriceFile.{first_unfit}
use Rattle.file_rules.specs.Calls.{WriteIs}
use Rattle.write_prices.specs.declared.Refused.{Refused}
use Rattle.write_prices.specs.Written.{rows_of, file_of}

-- lines can hold all price records of b, and take `size` bytes
pub record LinesHold (b : List ℕ) (size : ℕ) : Type 0 where
  pub good : first_unfit (rows_of b) ≡ none
  pub is : size ≡ length (file_of b)

-- the first that no line can hold stands at this place
pub record FirstUnfit (b : List ℕ) (e : Refused) : Type 0 where
  pub bad : first_unfit (rows_of b) ≡ some e.place
  pub reason : e.reason ≡ BadRow

abbrev pub JudgedIs : List ℕ → Result ℕ Refused → Type 0
JudgedIs b (Ok size) = LinesHold b size
JudgedIs b (Err e) = FirstUnfit b e

-- what the caller reads
abbrev pub answer_of : Result ℕ Refused → PlacedAnswer
answer_of (Ok length) = record { length = length; place = 0; number = 0 }
answer_of (Err e) = record { length = 0; place = e.place; number = number_for e.reason }

abbrev pub WrittenIs : List ℕ → List ℕ → List ℕ → Result ℕ Refused → Type 0
WrittenIs b old new r = WriteIs b old (answer_of r) new
