-- "Sums worked by hand", book K, with the texts 1 to 4: its bytes, its questions, and what the rules answer. What the calls' contracts
-- allow on K rests on this; so it is what shuts out the programs that "What the contracts owe the reader" names.
use Prim.Native.Nat.{ℕ, ◌≤◌}
use mathlib.Core.Path.{◌≡◌, refl}
use mathlib.Core.List.{List, [], ◌∷◌, ◌++◌, map}
use lib.IntN.{ℤ, pos, neg_ℤ}
use Rattle.integers.specs.Floor as Floor
use Rattle.rules.specs.Letters.{text}
use Rattle.rules.specs.Bytes.{bytes_of}
use Rattle.rules.specs.Days as Days
use Rattle.rules.specs.Book as Book
use Rattle.rules.specs.Book.{Row, sale, base, surcharge, discount}
use Rattle.rules.specs.BookLayout as BookLayout
use Rattle.rules.specs.Question as Question
use Rattle.rules.specs.Question.{no_currency, plain_factor}
use Rattle.rules.specs.Choice as Choice
use Rattle.rules.specs.Amounts as Amounts
use Rattle.rules.specs.Lines as Lines
use Rattle.rules.specs.Lines.{Line}
use Rattle.rules.specs.Refusals.{done}
use Rattle.rules.specs.Price as Price
use Rattle.rules.specs.Price.{Answer, price}
use Rattle.rules.specs.Calendar as Calendar
use Rattle.rules.specs.Calendar.{Stretch, stretches_bytes, calendar_in, calendar, calendar_list}
use Rattle.rules.specs.Program.{output, asked, digits}
use Rattle.rules.specs.declared.Value.{Value}
use Rattle.rules.specs.declared.Value.TheVariants.{Fixed, Percent}
use Rattle.rules.specs.RowBytes.{row_bytes}
use Rattle.rules.proofs.Encode.{book_bytes, article_bytes, question_bytes}
use Rattle.rules.proofs.CallLaws.{price_room, calendar_room}

-- ---- the book

abbrev pub EUR : List ℕ
EUR = text "EUR"

-- a sale row of A1 in euro, in that year or a half of it, with no limit and no rounding of its own
abbrev row : List ℕ → ℕ → ℕ → ℕ → Value → ℕ → ℕ → Row
row condition level rule number value from to =
    record {
      article = text "A1";
      condition = condition;
      sort = sale;
      level = level;
      rule = rule;
      text = number;
      value = value;
      currency = EUR;
      from = from;
      to = to;
      up_to = 0;
      rounding = 0;
    }

abbrev first_half : Row
first_half = row [] base 1 1 (Fixed (record { 0 = pos 10000 })) 20240101 20240630

abbrev second_half : Row
second_half = row [] base 1 2 (Fixed (record { 0 = pos 10500 })) 20240701 20241231

abbrev oak_row : Row
oak_row = row (text "OAK") surcharge 1 3 (Percent (record { 0 = pos 1250 })) 20240101 20241231

abbrev discount_row : Row
discount_row = row [] discount 2 4 (Percent (record { 0 = neg_ℤ (pos 333) })) 20240101 20241231

abbrev pub book_k : List ℕ
book_k = book_bytes (article_bytes (text "A1") [] ∷ map row_bytes (first_half ∷ second_half ∷ oak_row ∷ discount_row ∷ []))

-- A1 for sale in euro: on this day, so many, with these names granted
abbrev pub asks : ℕ → ℕ → List (List ℕ) → List ℕ
asks date quantity granted = question_bytes (text "A1") sale EUR date quantity granted []

abbrev line : ℕ → Row → ℤ → Line
line place r amount = record { place = place; factor = plain_factor; row = r; amount = amount }

-- (the line below names what computes: whoever unfolds `computed` unfolds all of it)
computed : Unit {0}
unfolding price calendar_in Calendar.finished Calendar.listing Calendar.within output asked digits Floor.floor BookLayout.records Book.article_of Book.rounding_for Question.question_of Question.on Question.grants Choice.component Choice.step₁ Choice.step₂ Choice.step₃ Choice.step₄ Choice.step₅ Choice.surviving Choice.choose Days.is_day Days.next Days.days_to Amounts.exact Amounts.ceiling Amounts.nearest Amounts.steps_by Amounts.multiple_by Amounts.rounded Lines.slots Lines.rows_at Lines.chosen_at Lines.chosen Lines.total Lines.base_sum Lines.line_after Lines.lines_after Lines.lines_of Lines.lines_bytes Lines.total_of Price.priced Price.answered Price.unused_of Price.answer_of Calendar.stretches_bytes Calendar.period_to Calendar.outcome Calendar.outcome_of Calendar.stretches Calendar.same_outcome
computed = tt

-- ---- prices: three lines, which take 48 bytes

-- the discount is of the base line and the oak
abbrev lines_on : Row → ℤ → ℤ → ℤ → List Line
lines_on r amount oak off = line 0 r amount ∷ line 1 oak_row oak ∷ line 0 discount_row off ∷ []

-- P1, the last day of the first half, and P2, the first of the second, with `oak` granted
abbrev pub P1 : List ℕ
P1 = asks 20240630 1 (text "oak" ∷ [])

abbrev pub P2 : List ℕ
P2 = asks 20240701 1 (text "oak" ∷ [])

abbrev pub answer1 : Answer
answer1 = record {
  unit = pos 10875;
  total = pos 10875;
  currency = EUR;
  lines = lines_on first_half (pos 10000) (pos 1250) (neg_ℤ (pos 375));
  unused = [];
}

abbrev pub answer2 : Answer
answer2 = record {
  unit = pos 11420;
  total = pos 11420;
  currency = EUR;
  lines = lines_on second_half (pos 10500) (pos 1313) (neg_ℤ (pos 393));
  unused = [];
}

just_1 : price book_k P1 48 ≡ done answer1
unfolding computed row_bytes
just_1 = refl

just_2 : price book_k P2 48 ≡ done answer2
unfolding computed row_bytes
just_2 = refl

-- P1 for two, with `OAK` granted once more, and `elm`, for which there is no row
abbrev pub elm_asked : List ℕ
elm_asked = asks 20240630 2 (text "oak" ∷ text "OAK" ∷ text "elm" ∷ [])

abbrev pub elm_answer : Answer
elm_answer = record {
  unit = pos 10875;
  total = pos 21750;
  currency = EUR;
  lines = answer1.lines;
  unused = record { place = 3; name = text "ELM"; factor = plain_factor } ∷ [];
}

just_elm : price book_k elm_asked 48 ≡ done elm_answer
unfolding computed row_bytes
just_elm = refl

module _ (room : ℕ) (h : 48 ≤ room) where
  pub price_1 : price book_k P1 room ≡ done answer1
  price_1 = price_room book_k P1 48 room answer1 just_1 h

  pub price_2 : price book_k P2 room ≡ done answer2
  price_2 = price_room book_k P2 48 room answer2 just_2 h

  pub price_elm : price book_k elm_asked room ≡ done elm_answer
  price_elm = price_room book_k elm_asked 48 room elm_answer just_elm h

-- ---- the calendar from 29 June 2024 to 2 January 2025: three stretches, which take 60 bytes or three records

abbrev pub calendar_asked : List ℕ
calendar_asked = asks 20240629 1 (text "oak" ∷ [])

abbrev pub calendar_end : ℕ
calendar_end = 20250102

abbrev pub stretches_k : List Stretch
stretches_k =
    record { first = 20240629; last = 20240630; outcome = record { refusal = 0; currency = EUR; unit = pos 10875 } }
    ∷ record { first = 20240701; last = 20241231; outcome = record { refusal = 0; currency = EUR; unit = pos 11420 } }
    ∷ record {
      first = 20250101;
      last = 20250102;
      outcome = record { refusal = 4; currency = no_currency; unit = pos 0 };
    }
    ∷ []

just_bytes : calendar book_k calendar_asked calendar_end 60 ≡ done stretches_k
unfolding computed row_bytes
just_bytes = refl

just_records : calendar_list book_k calendar_asked calendar_end 3 ≡ done stretches_k
unfolding computed row_bytes
just_records = refl

pub calendar_k : (room : ℕ) → 60 ≤ room → calendar book_k calendar_asked calendar_end room ≡ done stretches_k
calendar_k room h = calendar_room stretches_bytes book_k calendar_asked calendar_end 60 room stretches_k just_bytes h

pub list_k : (room : ℕ) → 3 ≤ room → calendar_list book_k calendar_asked calendar_end room ≡ done stretches_k
list_k room h = calendar_room (λ ss. ss) book_k calendar_asked calendar_end 3 room stretches_k just_records h

-- ---- and printed whole

abbrev pub input_k : List ℕ
input_k = book_k ++ (calendar_asked ++ bytes_of 4 calendar_end)

pub printed_k : output input_k ≡ text "20240629 20240630 0 EUR 10875\n20240701 20241231 0 EUR 11420\n20250101 20250102 4 --- 0\n"
unfolding computed row_bytes
printed_k = refl
