-- A look through a text book: where the first text that has the number stands, if one has it; or that the bytes are no text book.
use Rattle.std.specs.Prelude.{ℕ, ◌≡◌, List, length, Option, Some, None, Result, Ok, Err}
use Rattle.std.proofs.Math.Option.{Option as Maybe, some, none}
use Rattle.rules.specs.TextBook.{Entry}
use Rattle.rules.specs.Text.{entry_of}
use Rattle.rules.specs.declared.Part.{Part}
use Rattle.rules.specs.declared.Refusal.{Refusal}
use Rattle.rules.specs.declared.Refusal.TheVariants.{BrokenBook}

abbrev pub Looked : Type 0
Looked = Result (Option Part) Refusal

abbrev pub seen : Maybe Entry → Option Part
seen none = None
seen (some e) = Some (record { at = e.start; size = length e.text })

-- what a look for a number says of a text book's texts, or of bytes that are none
unfoldable pub looked : ℕ → Maybe (List Entry) → Looked
looked n none = Err BrokenBook
looked n (some es) = Ok (seen (entry_of n es))

-- `r` is what is to be seen
pub record Looks (want r : Looked) : Type 0 where
  pub is : want ≡ r
