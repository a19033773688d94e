-- What whoever runs the calendar program can rely on, whatever the bytes of its input: said of all that the contract of what it prints allows.
use Prim.Native.Nat.{ℕ, ◌≤◌, ◌<◌}
use mathlib.Core.Path.{◌≡◌, sym, ◌∙◌, ap}
use mathlib.Core.List.{List}
use mathlib.Core.Option.{some, none}
use lib.ListN.{length, take}
use Rattle.rules.specs.Letters.{text}
use Rattle.rules.specs.Book.{Record}
use Rattle.rules.specs.BookLayout.{records}
use Rattle.rules.specs.Question.{Question, question_of}
use Rattle.rules.specs.Program.{most_input, behind, book_in, question_in, end_in, output}
use Rattle.rules.proofs.ProgramLaws.{Cut}
use Rattle.rules.proofs.BookK.{input_k, printed_k}
use Rattle.rules.proofs.Promises as Rules
use Rattle.printing.specs.declared.output.Printed.{Printed}
use Rattle.printing.specs.Output.{OutputIs}
use Rattle.printing.proofs.OutputLaws.{printed_size}

-- what is printed: the bytes that count
abbrev pub bytes_printed : Printed → List ℕ
bytes_printed r = take r.n r.bytes

module _ (input : List ℕ) {r : Printed} (is : OutputIs input r) where
  -- There is one output: of two that the contract allows, as many bytes count, and they are the same.
  pub one_output : {r' : Printed} → OutputIs input r' → (r.n ≡ r'.n) × (bytes_printed r ≡ bytes_printed r')
  one_output {r'} other =
      let same : bytes_printed r ≡ bytes_printed r' = is.is ∙ sym other.is in
      (printed_size is ∙ ap length same ∙ sym (printed_size other), same)

  -- It is the output of the rules.
  pub prints_the_rules : bytes_printed r ≡ output input
  prints_the_rules = is.is

  -- Input of more than 65,536 bytes gets `refusal 1`,
  pub too_long : most_input < length input → bytes_printed r ≡ text "refusal 1\n"
  too_long h = is.is ∙ Rules.program_too_long input h

  -- so does input with fewer than four bytes, or with fewer than its book's own length says,
  pub cut_in_the_book : Cut input → bytes_printed r ≡ text "refusal 1\n"
  cut_in_the_book h = is.is ∙ Rules.program_cut_in_the_book input h

  -- and input with anything but a book in front.
  pub no_book : records (book_in input) ≡ none → bytes_printed r ≡ text "refusal 1\n"
  no_book e = is.is ∙ Rules.program_no_book input e

  module _ (fits : length input ≤ most_input) (book : List Record) (is_book : records (book_in input) ≡ some book) where
    -- Behind a good book, a question of which fewer than four bytes are there, or fewer than its own length says, gets `refusal 2`,
    pub cut_in_the_question : Cut (behind input) → bytes_printed r ≡ text "refusal 2\n"
    cut_in_the_question h = is.is ∙ Rules.program_cut_in_the_question input fits book is_book h

    -- and so does anything but a question in its place.
    pub no_question : question_of (question_in input) ≡ none → bytes_printed r ≡ text "refusal 2\n"
    no_question e = is.is ∙ Rules.program_no_question input fits book is_book e

    -- Behind a good book and a good question, an end date of another length than four bytes gets `refusal 9`.
    pub end_of_another_length : (q : Question) → question_of (question_in input) ≡ some q → (length (end_in input) ≡ 4 → ⊥) → bytes_printed r ≡ text "refusal 9\n"
    end_of_another_length q e n = is.is ∙ Rules.program_end_of_another_length input fits book is_book q e n

-- The calendar of K is printed as the paper has it.
pub K-printed : {r : Printed} → OutputIs input_k r
    → bytes_printed r ≡ text "20240629 20240630 0 EUR 10875\n20240701 20241231 0 EUR 11420\n20250101 20250102 4 --- 0\n"
K-printed is = is.is ∙ printed_k
