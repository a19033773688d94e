-- A case of the table of worked sums: what is asked, of which bytes, and what was worked by hand; the words in which cases are written; and what the
-- rules give for one.
use Prim.Native.Nat.{ℕ}
use mathlib.Core.List.{List, [], ◌∷◌, ◌++◌, map}
use lib.IntN.{ℤ, pos, neg_ℤ}
use lib.ListN.{replicate}
use Rattle.rules.specs.Letters.{text}
use Rattle.rules.specs.Bytes.{bytes_of}
use Rattle.rules.specs.Book.{Row, sale, base}
use Rattle.rules.specs.Refusals.{Result, done, refused}
use Rattle.rules.specs.Price.{price, Answer}
use Rattle.rules.specs.FinalNumber.{final_number}
use Rattle.rules.specs.Packaging.{packaging, Packed}
use Rattle.rules.specs.Program.{output, asked, digits}
use Rattle.rules.specs.Days as Days
use Rattle.rules.specs.Book as Book
use Rattle.rules.specs.BookLayout as BookLayout
use Rattle.rules.specs.Question as Question
use Rattle.rules.specs.Choice as Choice
use Rattle.rules.specs.Amounts as Amounts
use Rattle.rules.specs.Lines as Lines
use Rattle.rules.specs.Price as Price
use Rattle.rules.specs.Questions as Questions
use Rattle.rules.specs.Basket as Basket
use Rattle.rules.specs.Calendar as Calendar
use Rattle.rules.specs.FinalNumber as FinalNumber
use Rattle.rules.specs.Refusals as Refusals
use Rattle.rules.specs.TextBook as TextBook
use Rattle.rules.specs.Text as LineText
use Rattle.rules.specs.Packaging as Packaging
use Rattle.rules.specs.declared.PriceAnswer.{PriceAnswer}
use Rattle.rules.specs.declared.Written.{Written}
use Rattle.rules.specs.declared.Value.{Value}
use Rattle.rules.specs.declared.Value.TheVariants.{Fixed, Percent}
use Rattle.integers.specs.Floor as Floor
use Rattle.rules.specs.RowBytes.{row_bytes}
use Rattle.rules.proofs.Encode.{book_bytes, article_bytes, question_bytes, question_bytes₂}

-- ---- a case: what is asked, of which book and question, and what was worked by hand

pub data Call : Type 0 where
  AskPrice : Call
  AskNumber : Call
  AskGross : Call
  -- the program, with an end date
  AskCalendar : ℕ → Call
  -- what the caller reads of a price, and the lent bytes, of which there are so many sevens
  AskBytes : ℕ → Call
  -- the text of a number, the fallback standing in the question's place
  AskText : ℕ → Call
  -- the bytes of a calendar
  AskStretches : ℕ → Call
  -- the program on an input, which stands in the book's place
  AskInput : Call
  -- a basket, its questions standing in the question's place, and so many sevens lent
  AskBasket : ℕ → Call

pub data Worked : Type 0 where
  -- the lines' amounts, and the unit total
  Listed : List ℤ → ℤ → Worked
  Text : List ℕ → Worked
  Weight : ℤ → Worked
  Refusal : ℕ → Worked
  -- number, unit total, total, number of lines, unused set and its count, currency; then the lent bytes
  Read : ℕ → ℤ → ℤ → ℕ → ℕ → ℕ → List ℕ → List ℕ → Worked
  -- which text book, where in it, and the text
  InBook : ℕ → ℕ → List ℕ → Worked
  -- number, and how many bytes were written; then the lent bytes
  Left : ℕ → ℕ → List ℕ → Worked

pub record Case : Type 0 where
  pub call : Call
  pub book : List ℕ
  pub question : List ℕ
  pub worked : Worked

abbrev pub case : Call → List ℕ → List ℕ → Worked → Case
case c b q w = record { call = c; book = b; question = q; worked = w }

-- ---- the words of the cases

abbrev pub minus : ℕ → ℤ
minus n = neg_ℤ (pos n)

abbrev pub fixed : ℤ → Value
fixed z = Fixed (record { 0 = z })

abbrev pub percent : ℤ → Value
percent z = Percent (record { 0 = z })

abbrev pub A1 : List ℕ
A1 = text "A1"

abbrev pub T100 : List ℕ
T100 = text "T100"

abbrev pub OAK : List ℕ
OAK = text "OAK"

abbrev pub oak : List ℕ
oak = text "oak"

abbrev pub EUR : List ℕ
EUR = text "EUR"

abbrev pub USD : List ℕ
USD = text "USD"

-- a sale row of A1: condition, level, rule, value, currency, from, to, up to, rounding
abbrev pub row : List ℕ → ℕ → ℕ → Value → List ℕ → ℕ → ℕ → ℕ → ℕ → Row
row condition level rule value currency from to up_to rounding =
    record {
      article = A1;
      condition = condition;
      sort = sale;
      level = level;
      rule = rule;
      text = 0;
      value = value;
      currency = currency;
      from = from;
      to = to;
      up_to = up_to;
      rounding = rounding;
    }

-- one with no condition, all of 2024
abbrev pub in2024 : ℕ → ℕ → Value → List ℕ → ℕ → ℕ → Row
in2024 level rule value currency up_to rounding = row [] level rule value currency 20240101 20241231 up_to rounding

-- a base row in euro, for any quantity
abbrev pub base_row : ℕ → ℕ → ℕ → Row
base_row cents from to = row [] base 1 (fixed (pos cents)) EUR from to 0 0

-- a book of A1 with these rows, and other records behind them
abbrev pub book_of : List Row → List (List ℕ) → List ℕ
book_of rs others = book_bytes (article_bytes A1 [] ∷ (map row_bytes rs ++ others))

abbrev pub ask : ℕ → ℕ → List (List ℕ) → List ℕ
ask date quantity granted = question_bytes A1 sale EUR date quantity granted []

-- and with factors
abbrev pub ask₂ : ℕ → ℕ → List (List ℕ × ℕ) → List ℕ
ask₂ date quantity granted = question_bytes₂ A1 sale EUR date quantity granted []

-- ---- what the rules give

abbrev read_price : Result Answer → Worked
read_price (done a) = Listed (map (λ l. l.amount) a.lines) a.unit
read_price (refused n) = Refusal n

abbrev read_text : Result (List ℕ) → Worked
read_text (done t) = Text t
read_text (refused n) = Refusal n

abbrev read_gross : Result Packed → Worked
read_gross (done p) = Weight p.gross
read_gross (refused n) = Refusal n

abbrev read_call : PriceAnswer × List ℕ → Worked
read_call p = Read p.0.number p.0.unit p.0.total p.0.lines p.0.unused p.0.unused_count p.0.currency p.1

abbrev read_found : Result LineText.Found → Worked
read_found (done f) = InBook (LineText.book_of f) (LineText.found_entry f).start (LineText.found_entry f).text
read_found (refused n) = Refusal n

abbrev read_stretches : Result (List Calendar.Stretch) → Worked
read_stretches (done ss) = Text (Calendar.stretches_bytes ss)
read_stretches (refused n) = Refusal n

abbrev read_basket : Written × List ℕ → Worked
read_basket p = Left p.0.number p.0.length p.1

abbrev by : Call → List ℕ → List ℕ → Worked
by AskPrice b q = read_price (price b q 1000)
by AskNumber b q = read_text (final_number b q 1000)
by AskGross b q = read_gross (packaging b q)
by (AskCalendar end) b q = Text (output (b ++ (q ++ bytes_of 4 end)))
by (AskBytes room) b q = read_call (Price.price_call b q (replicate room 7))
by (AskText n) b q = read_found (LineText.text b q n)
by (AskStretches end) b q = read_stretches (Calendar.calendar b q end 1000)
by AskInput b q = Text (output b)
by (AskBasket room) b q = read_basket (Basket.basket_call b q (replicate room 7))

-- (the line below names what computes: whoever unfolds `found` unfolds all of it)
unfoldable pub found : Case → Worked
unfolding price Floor.floor BookLayout.records Book.article_of Book.scheme_of Book.pack_of Book.rounding_for Question.question_of Question.on Question.grants Choice.component Choice.step₁ Choice.step₂ Choice.step₃ Choice.step₄ Choice.step₅ Choice.surviving Choice.choose Days.is_day Days.next Days.days_to Amounts.exact Amounts.ceiling Amounts.nearest Amounts.steps_by Amounts.multiple_by Amounts.rounded Lines.slots Lines.rows_at Lines.chosen_at Lines.chosen Lines.total Lines.base_sum Lines.line_after Lines.lines_after Lines.lines_of Lines.lines_bytes Lines.total_of Price.priced Price.answered Price.unused_of Price.answer_of final_number FinalNumber.final_number_of FinalNumber.number_by packaging Packaging.used Packaging.packed_of output asked digits Calendar.calendar_in Calendar.finished Calendar.listing Calendar.within Calendar.stretches_bytes Price.shown Refusals.lent_after LineText.text TextBook.entries Calendar.period_to Calendar.outcome Calendar.outcome_of Calendar.stretches Calendar.same_outcome Questions.questions_of Basket.basket_bytes Basket.basket Basket.shown_basket
found c = by c.call c.book c.question
