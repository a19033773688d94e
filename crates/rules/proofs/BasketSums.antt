-- "Price the whole basket at once": baskets whose bytes were worked by hand.
use Prim.Native.Nat.{ℕ, ◌-◌, ◌+◌}
use mathlib.Core.List.{List, [], ◌∷◌, ◌++◌, map}
use lib.ListN.{length, set, replicate}
use Rattle.rules.specs.Lists.{join}
use Rattle.rules.specs.Letters.{text, letter}
use Rattle.rules.specs.Book.{sale, surcharge}
use Rattle.rules.proofs.Encode.{book_bytes, question_bytes}
use Rattle.rules.proofs.Cases.{AskBasket, Left, Case, case, minus, fixed, OAK, oak, EUR, row, base_row, book_of, ask}

-- A1 costs 258 cents to the end of June; in oak 2 cents less, all year
abbrev shelf : List ℕ
shelf = book_of (base_row 258 20240101 20240630 ∷ row OAK surcharge 1 (fixed (minus 2)) EUR 20240101 20241231 0 0 ∷ []) []

-- ---- the questions

-- two pieces
abbrev plain : List ℕ
plain = ask 20240630 2 []

-- in July there is no base line, though there is one for oak
abbrev late : List ℕ
late = ask 20240701 1 (oak ∷ [])

-- three pieces; elm brings no line
abbrev oaken : List ℕ
oaken = ask 20240630 3 (text "elm" ∷ oak ∷ [])

-- an article that the book lacks
abbrev unknown : List ℕ
unknown = question_bytes (text "B2") sale EUR 20240630 1 [] []

-- a question that says another length than it has: its last byte of length is byte 3
abbrev saying : ℕ → List ℕ
saying n = set plain 3 n

-- ---- what is written for each

-- number; unit total; total; currency; lines; unused set; its count
abbrev plain_answer : List ℕ
plain_answer =
    0
    ∷ 0 ∷ 0 ∷ 0 ∷ 0 ∷ 0 ∷ 0 ∷ 1 ∷ 2
    ∷ 0 ∷ 0 ∷ 0 ∷ 0 ∷ 0 ∷ 0 ∷ 2 ∷ 4
    ∷ 69 ∷ 85 ∷ 82
    ∷ 0 ∷ 0 ∷ 0 ∷ 0 ∷ 0 ∷ 0 ∷ 0 ∷ 1
    ∷ 0 ∷ 0 ∷ 0 ∷ 0
    ∷ 0
    ∷ []

abbrev oaken_answer : List ℕ
oaken_answer =
    0
    ∷ 0 ∷ 0 ∷ 0 ∷ 0 ∷ 0 ∷ 0 ∷ 1 ∷ 0
    ∷ 0 ∷ 0 ∷ 0 ∷ 0 ∷ 0 ∷ 0 ∷ 3 ∷ 0
    ∷ 69 ∷ 85 ∷ 82
    ∷ 0 ∷ 0 ∷ 0 ∷ 0 ∷ 0 ∷ 0 ∷ 0 ∷ 2
    ∷ 0 ∷ 0 ∷ 0 ∷ 1
    ∷ 1
    ∷ []

abbrev refused_answer : ℕ → List ℕ
refused_answer n = n ∷ replicate 32 0

-- text number; level; place; amount; factor
abbrev base_line : List ℕ
base_line = 0 ∷ 0 ∷ 0 ∷ 0 ∷ letter "B" ∷ 0 ∷ 0 ∷ 0 ∷ 0 ∷ 0 ∷ 0 ∷ 0 ∷ 1 ∷ 2 ∷ 3 ∷ 232 ∷ []

abbrev oak_line : List ℕ
oak_line = 0 ∷ 0 ∷ 0 ∷ 0 ∷ letter "X" ∷ 2 ∷ 255 ∷ 255 ∷ 255 ∷ 255 ∷ 255 ∷ 255 ∷ 255 ∷ 254 ∷ 3 ∷ 232 ∷ []

-- ---- the table

-- so much is lent, and none of it is written
abbrev refused_basket : ℕ → ℕ → List ℕ → List ℕ → Case
refused_basket number room b qs = case (AskBasket room) b qs (Left number 0 (replicate room 7))

abbrev pub baskets : List Case
baskets =
    -- no question: nothing is written, and no room is needed
    case (AskBasket 0) shelf [] (Left 0 0 [])
    -- one: its answer, its line, and the lent bytes behind them
    ∷ case (AskBasket 52) shelf plain (Left 0 49 (plain_answer ++ (base_line ++ replicate 3 7)))
    -- one refused between two that are priced: its number and zeros, no line, and the next goes on; all lines behind all answers
    ∷ case (AskBasket 147) shelf (plain ++ (late ++ oaken))
    (Left 0 147 (plain_answer ++ (refused_answer 4 ++ (oaken_answer ++ (base_line ++ (base_line ++ oak_line))))))
    -- a byte of room too few
    ∷ refused_basket 7 146 shelf (plain ++ (late ++ oaken))
    -- only refused ones
    ∷ case (AskBasket 66) shelf (unknown ++ late) (Left 0 66 (refused_answer 3 ++ refused_answer 4))
    ∷ refused_basket 7 65 shelf (unknown ++ late)
    -- a broken question refuses all, wherever it stands: a byte left over, a length below 5, one byte fewer or more than there are
    ∷ (map (λ qs. refused_basket 2 50 shelf qs)
    ((plain ++ (0 ∷ []))
    ∷ ((0 ∷ []) ++ plain)
    ∷ (plain ++ (0 ∷ 0 ∷ 0 ∷ 0 ∷ []))
    ∷ (plain ++ (0 ∷ 0 ∷ 0 ∷ 4 ∷ []))
    ∷ (plain ++ (0 ∷ 0 ∷ 0 ∷ 4 ∷ 1 ∷ []))
    ∷ (plain ++ (0 ∷ 0 ∷ 0 ∷ 5 ∷ 1 ∷ []))
    ∷ saying (length plain - 1)
    ∷ saying (length plain + 1)
    ∷ (saying (length plain - 1) ++ plain)
    ∷ (saying (length plain + 1) ++ plain)
    ∷ (plain ++ (set plain 8 (letter "Q") ++ plain))
    ∷ [])
    -- as many as there may be, and one more; 2 goes before 7, and 1 before 2
    ++ (case (AskBasket 6600) (book_bytes []) (join (replicate 200 plain)) (Left 0 6600 (join (replicate 200 (refused_answer 3))))
    ∷ refused_basket 2 6633 (book_bytes []) (join (replicate 201 plain))
    ∷ refused_basket 2 0 (book_bytes []) (join (replicate 201 plain))
    ∷ refused_basket 1 1 (0 ∷ []) (0 ∷ [])
    ∷ refused_basket 1 0 (0 ∷ []) []
    ∷ []))
