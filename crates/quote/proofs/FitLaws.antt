-- What fits into the bytes of an answer: an outcome's currency is three letters and its unit total is in range, and a row's text number has four bytes.
use Prim.Native.Nat.{ℕ, ◌≤◌}
use mathlib.Core.Path.{◌≡◌, refl}
use mathlib.Core.List.{List}
use mathlib.Core.Option.{some}
use native.Mathlib.Omega.{arith}
use lib.IntN.{nat_abs}
use lib.ListN.{length}
use Rattle.rules.specs.Book.{Record}
use Rattle.rules.specs.BookLayout.{records}
use Rattle.rules.specs.Question.{Question, on}
use Rattle.rules.specs.Refusals.{Result, done, refused}
use Rattle.rules.specs.Lines.{most_total}
use Rattle.rules.specs.Price.{Priced, priced}
use Rattle.rules.specs.Calendar.{outcome_of, outcome}
use Rattle.rules.proofs.CurrencyLaws.{rows_in_letters, priced_currency}
pub use Rattle.records.proofs.TextNumberLaws.{Bytes, text_below}
use Rattle.lines.proofs.NearLaws.{priced_total}

-- An outcome's currency is three bytes, and its unit total is in range.
pub outcome_fits : (b : List ℕ) {book : List Record} → records b ≡ some book → (q : Question) (d : ℕ)
    → (length (outcome book q d).currency ≡ 3) × (nat_abs (outcome book q d).unit ≤ most_total)
unfolding outcome outcome_of
outcome_fits b {book} e q d = go (priced book (on q d)) refl
  where
    go : (x : Result Priced) → priced book (on q d) ≡ x → (length (outcome_of x).currency ≡ 3) × (nat_abs (outcome_of x).unit ≤ most_total)
    go (done p) h = (priced_currency book (rows_in_letters b book e) (on q d) p h, priced_total book (on q d) h)
    go (refused n) h = (refl, omega arith)
