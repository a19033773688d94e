-- "Calendar", the program: what it prints for the bytes of its standard input.
use Rattle.std.specs.Prelude.{ℕ, zero, suc, ◌+◌, ◌*◌, ◌/◌, ◌%◌, true, false, cond, List, [], ◌∷◌, ◌++◌, map, eqb, leb, ltb, length, take, drop, ℤ, pos, negsuc}
use Rattle.rules.specs.Lists.{join, join_with}
use Rattle.rules.specs.Letters.{text, letter}
use Rattle.rules.specs.Bytes.{big, own_length}
use Rattle.rules.specs.Refusals.{Result, done, refused, ◌>>=◌, refuse_unless}
use Rattle.rules.specs.Calendar.{calendar, most_days, Stretch}

-- ---- what is printed

-- a number of at most k digits
unfoldable pub digits : ℕ → ℕ → List ℕ
digits zero n = []
digits (suc k) n = elim (ltb n 10) [ true ↦ (letter "0" + n) ∷ [] | false ↦ digits k (n / 10) ++ ((letter "0" + n % 10) ∷ []) ]

abbrev pub decimal : ℕ → List ℕ
decimal n = digits 20 n

abbrev pub signed_decimal : ℤ → List ℕ
signed_decimal (pos n) = decimal n
signed_decimal (negsuc n) = letter "-" ∷ decimal (suc n)

abbrev pub currency_text : ℕ → List ℕ → List ℕ
currency_text zero c = c
currency_text (suc n) c = text "---"

-- a stretch on a line of its own
abbrev pub stretch_text : Stretch → List ℕ
stretch_text s =
    join_with (text " ")
    (decimal s.first ∷ decimal s.last ∷ decimal s.outcome.refusal ∷ currency_text s.outcome.refusal s.outcome.currency ∷ signed_decimal s.outcome.unit ∷ [])
    ++ text "\n"

abbrev pub printed : Result (List Stretch) → List ℕ
printed (done ss) = join (map stretch_text ss)
printed (refused n) = text "refusal " ++ (decimal n ++ text "\n")

-- ---- what is read

abbrev pub most_input : ℕ
most_input = 65_536

-- the part in front is as long as it says; one that is cut has fewer bytes than that
abbrev pub front : List ℕ → List ℕ
front s = take (own_length s) s

abbrev pub behind : List ℕ → List ℕ
behind s = drop (own_length s) s

-- a book, a question and an end date, one behind the other
abbrev pub book_in : List ℕ → List ℕ
book_in input = front input

abbrev pub question_in : List ℕ → List ℕ
question_in input = front (behind input)

abbrev pub end_in : List ℕ → List ℕ
end_in input = behind (behind input)

-- an end date of another length is read as 0, which is no day
abbrev pub end_of : List ℕ → ℕ
end_of s = cond (eqb (length s) 4) (big s) 0

-- What is cut is shorter than it says, so the call itself refuses it in its own order; the room is for a stretch on every day, so 7 is never met.
unfoldable pub asked : List ℕ → Result (List Stretch)
asked input = do
  _ ← refuse_unless 1 (leb (length input) most_input)
  calendar (book_in input) (question_in input) (end_of (end_in input)) (20 * most_days)

unfoldable pub output : List ℕ → List ℕ
output input = printed (asked input)
