-- "Price the whole basket at once": one book, questions end to end, and for each question the answer of the price call.
use Rattle.std.specs.Prelude.{ℕ, ◌+◌, ◌*◌, List, [], ◌∷◌, ◌++◌, map, leb, length}
use Rattle.rules.specs.Lists.{join}
use Rattle.rules.specs.Bytes.{bytes_of, signed_bytes_of}
use Rattle.rules.specs.BookLayout.{records}
use Rattle.rules.specs.Lines.{most_lines_size}
use Rattle.rules.specs.Questions.{questions_of}
use Rattle.rules.specs.Refusals.{Result, done, ◌>>=◌, or_refuse, refuse_unless, number_of, or_zero, lent_after}
use Rattle.rules.specs.Price.{Answer, answered, written, shown}
use Rattle.rules.specs.declared.PriceAnswer.{PriceAnswer}
use Rattle.rules.specs.declared.Written.{Written}

-- ---- what is written

-- the bytes of an answer
abbrev pub answer_size : ℕ
answer_size = 33

-- number 1, unit total 8, total 8, currency 3, lines 8, unused set 4, its count 1
abbrev pub answer_bytes : PriceAnswer → List ℕ
answer_bytes a =
    a.number
    ∷ (signed_bytes_of 8 a.unit
    ++ (signed_bytes_of 8 a.total ++ (a.currency ++ (bytes_of 8 a.lines ++ (bytes_of 4 a.unused ++ (a.unused_count ∷ []))))))

-- a refused question has its number and zeros,
abbrev pub answer_in : Result Answer → List ℕ
answer_in r = answer_bytes (shown r)

-- and adds no lines
abbrev pub lines_in : Result Answer → List ℕ
lines_in r = or_zero [] written r

-- all answers, then all lines, both in the questions' order
unfoldable pub basket_bytes : List (Result Answer) → List ℕ
basket_bytes rs = join (map answer_in rs) ++ join (map lines_in rs)

-- ---- the call: refusals 1, 2, 7

abbrev pub most_basket : ℕ
most_basket = 200

-- so much room is enough for the answers and the lines of any basket
abbrev pub most_basket_size : ℕ
most_basket_size = most_basket * (answer_size + most_lines_size)

-- each question has an outcome of its own, 3 to 6 among them; room is asked for once, for all that is written
unfoldable pub basket : List ℕ → List ℕ → ℕ → Result (List (Result Answer))
basket book_bytes questions_bytes room = do
  book ← or_refuse 1 (records book_bytes)
  qs ← or_refuse 2 (questions_of most_basket questions_bytes)
  let rs = map (answered book) qs
  _ ← refuse_unless 7 (leb (length (basket_bytes rs)) room)
  done rs

-- the numbers that the caller reads, and the lent output after the call
unfoldable pub shown_basket : Result (List (Result Answer)) → Written
shown_basket r = record { length = or_zero 0 (λ rs. length (basket_bytes rs)) r; number = number_of r }

abbrev pub lent_after_basket : Result (List (Result Answer)) → List ℕ → List ℕ
lent_after_basket r lent = lent_after basket_bytes r lent

-- all that the call does: what is read of it, and what is then in the lent output
abbrev pub basket_call : List ℕ → List ℕ → List ℕ → Written × List ℕ
basket_call book_bytes questions_bytes lent = let r = basket book_bytes questions_bytes (length lent) in (shown_basket r, lent_after_basket r lent)
