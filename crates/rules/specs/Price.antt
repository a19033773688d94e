-- The price call: refusals 1, 2, 3, 4, 5, 6, 7 ("Numbers a caller can get"), and what is answered ("From rows to a total").
use Rattle.std.specs.Prelude.{ℕ, ◌-◌, Bool, ◌||◌, not, List, map, eqb, leb, length, ℤ, pos, ◌*ℤ◌}
use Rattle.rules.specs.Lists.{same, all, any, first, keep, bit_set}
use Rattle.rules.specs.Book.{Record, article_of}
use Rattle.rules.specs.BookLayout.{records}
use Rattle.rules.specs.Question.{Question, Grant, grants, question_of, no_currency}
use Rattle.rules.specs.Choice.{is_percent}
use Rattle.rules.specs.Lines.{Line, amounts, total, of_base, lines_of, lines_bytes, total_of}
use Rattle.rules.specs.Refusals.{Result, done, refused, ◌>>=◌, or_refuse, refuse_unless, number_of, or_zero, lent_after}
use Rattle.rules.specs.declared.Cents.{Cents}
use Rattle.rules.specs.declared.Total.{Total}
use Rattle.rules.specs.declared.Total.TheVariants.{InRange, OutOfRange}
use Rattle.rules.specs.declared.PriceAnswer.{PriceAnswer}

-- ---- the price of an article that the book has

pub record Priced : Type 0 where
  pub lines : List Line
  pub currency : List ℕ

-- a percentage has no currency of its own; every amount must be in this one
abbrev pub in_one_currency : List ℕ → List Line → Bool
in_one_currency c ls = all (λ l. is_percent l.row.value || same l.row.currency c) ls

-- a total that left its range is refusal 6
abbrev pub in_range : Total → Result Cents
in_range (InRange c) = done c
in_range OutOfRange = refused 6

-- on one day: refusals 4, 5 and 6
unfoldable pub priced : List Record → Question → Result Priced
priced book q = do
  let ls = lines_of book q
  b ← or_refuse 4 (first of_base ls)
  let currency = b.row.currency
  _ ← refuse_unless 5 (in_one_currency currency ls)
  _ ← in_range (total_of (amounts ls))
  done (record { lines = ls; currency = currency })

-- ---- granted names that brought no line

unfoldable pub unused_of : Question → List Line → List Grant
unused_of q ls = keep (λ g. not (any (λ l. eqb l.place g.place) ls)) (grants q.granted)

-- their places as a set of bits, the lowest for place 1
abbrev pub set_of : List Grant → ℕ
set_of gs = bit_set (map (λ g. g.place - 1) gs)

-- ---- the call

pub record Answer : Type 0 where
  pub unit : ℤ
  pub total : ℤ
  pub currency : List ℕ
  pub lines : List Line
  pub unused : List Grant

unfoldable pub answer_of : Question → Priced → Answer
answer_of q p =
    record {
      unit = total p.lines;
      total = pos q.quantity *ℤ total p.lines;
      currency = p.currency;
      lines = p.lines;
      unused = unused_of q p.lines;
    }

-- what goes to the front of the lent output
abbrev pub written : Answer → List ℕ
written a = lines_bytes a.lines

-- what is answered where there is room enough for it: refusals 3 to 6
unfoldable pub answered : List Record → Question → Result Answer
answered book q = do
  _ ← or_refuse 3 (article_of book q.article)
  p ← priced book q
  done (answer_of q p)

-- and where so much room is lent
abbrev pub in_room : ℕ → Answer → Result Answer
in_room room a = do
  _ ← refuse_unless 7 (leb (length (written a)) room)
  done a

unfoldable pub price : List ℕ → List ℕ → ℕ → Result Answer
price book_bytes question_bytes room = do
  book ← or_refuse 1 (records book_bytes)
  q ← or_refuse 2 (question_of question_bytes)
  a ← answered book q
  in_room room a

-- the numbers that the caller reads, and the lent output after the call
unfoldable pub shown : Result Answer → PriceAnswer
shown r =
    record {
      unit = or_zero (pos 0) (λ a. a.unit) r;
      total = or_zero (pos 0) (λ a. a.total) r;
      lines = or_zero 0 (λ a. length a.lines) r;
      unused = or_zero 0 (λ a. set_of a.unused) r;
      unused_count = or_zero 0 (λ a. length a.unused) r;
      number = number_of r;
      currency = or_zero no_currency (λ a. a.currency) r;
    }

abbrev pub lent_after_price : Result Answer → List ℕ → List ℕ
lent_after_price r lent = lent_after written r lent

-- all that the call does: what is read of it, and what is then in the lent output
abbrev pub price_call : List ℕ → List ℕ → List ℕ → PriceAnswer × List ℕ
price_call book_bytes question_bytes lent = let r = price book_bytes question_bytes (length lent) in (shown r, lent_after_price r lent)
