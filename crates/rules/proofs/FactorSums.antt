-- "Factors on conditions": sums worked by hand.
use Prim.Native.Nat.{ℕ}
use mathlib.Core.List.{List, [], ◌∷◌, ◌++◌}
use lib.IntN.{ℤ, pos}
use lib.ListN.{replicate}
use Rattle.rules.specs.Letters.{text, letter}
use Rattle.rules.specs.Book.{Row, sale, base, surcharge, discount}
use Rattle.rules.specs.BookLayout.{no_unit}
use Rattle.rules.proofs.Encode.{book_bytes, article_bytes, rounding_bytes, pack_bytes, scheme_bytes, property_bytes, question_bytes₂}
use Rattle.rules.proofs.Cases.{AskPrice, AskNumber, AskGross, AskCalendar, AskBytes, AskBasket, Listed, Text, Weight, Refusal, Read, Left, Case, case}
use Rattle.rules.proofs.Cases.{minus, fixed, percent, A1, T100, OAK, oak, EUR, row, in2024, base_row, book_of, ask, ask₂}

-- under a condition, all of 2024
abbrev under : List ℕ → ℕ → ℕ → ℤ → Row
under condition level rule share = row condition level rule (percent share) EUR 20240101 20241231 0 0

-- A1 costs 10000, in wood 2000 more, which is a base price too; oak is 12.5 percent of base prices, a card takes off 3.33 percent of all before it
abbrev cabinet : List ℕ
cabinet =
    book_of
    (base_row 10000 20240101 20241231
    ∷ row (text "WOOD") base 1 (fixed (pos 2000)) EUR 20240101 20241231 0 0
    ∷ under OAK surcharge 1 (pos 1250)
    ∷ under (text "CARD") discount 2 (minus 333)
    ∷ []) []

abbrev priced : List (List ℕ × ℕ) → List ℤ → ℕ → Case
priced granted amounts unit = case AskPrice cabinet (ask₂ 20240630 1 granted) (Listed amounts (pos unit))

-- one base row under a condition, with a rounding of its own: down to tens, 8 added before and 1 taken off after
abbrev trimmed : List ℕ
trimmed = book_of (row (text "TRIM") base 1 (fixed (pos 105)) EUR 20240101 20241231 0 7 ∷ []) (rounding_bytes 7 0 10 (pos 8) (minus 1) ∷ [])

-- the most that a row may say, by the metre, and a row more
abbrev longest : ℤ → List ℕ
longest more = book_of (row OAK base 1 (fixed (pos 100_000_000)) EUR 20240101 20241231 0 0 ∷ in2024 discount 1 (fixed more) EUR 0 0 ∷ []) []

abbrev boxes : List ℕ
boxes =
    book_bytes
    (article_bytes A1 []
    ∷ pack_bytes A1 [] 112 (pos 0 ∷ pos 0 ∷ pos 0 ∷ pos 0 ∷ pos 2000 ∷ pos 15000 ∷ pos 2 ∷ pos 0 ∷ []) (no_unit ∷ no_unit ∷ text "KGM" ∷ [])
    ∷ pack_bytes A1 OAK 32 (pos 0 ∷ pos 0 ∷ pos 0 ∷ pos 0 ∷ pos 0 ∷ pos 3000 ∷ pos 0 ∷ pos 0 ∷ []) (no_unit ∷ no_unit ∷ text "KGM" ∷ [])
    ∷ [])

-- book K
abbrev book_k : List ℕ
book_k =
    book_of
    (base_row 10000 20240101 20240630
    ∷ base_row 10500 20240701 20241231
    ∷ under OAK surcharge 1 (pos 1250)
    ∷ under [] discount 2 (minus 333)
    ∷ []) []

-- the lines of a cabinet in oak, in bytes, by oak's amount and factor
abbrev oak_lines : List ℕ → List ℕ → List ℕ
oak_lines amount factor =
    0 ∷ 0 ∷ 0 ∷ 0 ∷ letter "B" ∷ 0 ∷ 0 ∷ 0 ∷ 0 ∷ 0 ∷ 0 ∷ 0 ∷ 39 ∷ 16 ∷ 3 ∷ 232 ∷ 0 ∷ 0 ∷ 0 ∷ 0 ∷ letter "X" ∷ 1 ∷ 0 ∷ 0 ∷ 0 ∷ 0 ∷ 0 ∷ 0 ∷ (amount ++ factor)

abbrev pub factors : List Case
factors =
    -- half a metre of oak, and none of it; once and ten times: 625, 0, 1250, 12500
    priced ((oak, 500) ∷ []) (pos 10000 ∷ pos 625 ∷ []) 10625
    ∷ priced ((oak, 0) ∷ []) (pos 10000 ∷ pos 0 ∷ []) 10000
    ∷ priced ((oak, 1000) ∷ []) (pos 10000 ∷ pos 1250 ∷ []) 11250
    ∷ priced ((oak, 10_000) ∷ []) (pos 10000 ∷ pos 12500 ∷ []) 22500
    -- a base price by its factor, 1.5 times 2000; a share of base prices is of what is listed: 12.5 percent of 13000
    ∷ priced ((text "wood", 1500) ∷ (oak, 1000) ∷ []) (pos 10000 ∷ pos 3000 ∷ pos 1625 ∷ []) 14625
    -- below zero: a quarter of -333 is -83.25; ten times it is -3330
    ∷ priced ((text "card", 250) ∷ []) (pos 10000 ∷ minus 83 ∷ []) 9917
    ∷ priced ((text "card", 10_000) ∷ []) (pos 10000 ∷ minus 3330 ∷ []) 6670
    -- shares of both rules: 625; 3.33 percent of 10625 are 353.8125, twice that is 707.625
    ∷ priced ((oak, 500) ∷ (text "card", 2000) ∷ []) (pos 10000 ∷ pos 625 ∷ minus 708 ∷ []) 9917
    -- a name that is sent again keeps its first factor
    ∷ priced ((oak, 500) ∷ (OAK, 2000) ∷ []) (pos 10000 ∷ pos 625 ∷ []) 10625
    ∷ priced ((OAK, 2000) ∷ (oak, 500) ∷ (text "Oak", 0) ∷ []) (pos 10000 ∷ pos 2500 ∷ []) 12500
    -- the factor goes before the rounding and what it adds: 52.5, 60.5, 60, 59
    ∷ case AskPrice trimmed (ask₂ 20240630 1 ((text "trim", 500) ∷ [])) (Listed (pos 59 ∷ []) (pos 59))
    -- nothing of it is 0, and 8 down to tens is 0, less 1
    ∷ case AskPrice trimmed (ask₂ 20240630 1 ((text "trim", 0) ∷ [])) (Listed (minus 1 ∷ []) (minus 1))
    -- ten times the most that a row may say is just in range, and a cent more is not
    ∷ case AskPrice (longest (pos 0)) (ask₂ 20240630 1 ((oak, 10_000) ∷ [])) (Listed (pos 1_000_000_000 ∷ pos 0 ∷ []) (pos 1_000_000_000))
    ∷ case AskPrice (longest (pos 1)) (ask₂ 20240630 1 ((oak, 10_000) ∷ [])) (Refusal 6)
    -- every byte: the factor ends the line, of a plain line 1000; a line of nothing is a line, and its name is not unused
    ∷ case (AskBytes 33) cabinet (ask₂ 20240630 1 ((oak, 500) ∷ [])) (Read 0 (pos 10625) (pos 10625) 2 0 0 EUR (oak_lines (2 ∷ 113 ∷ []) (1 ∷ 244 ∷ []) ++ (7 ∷ [])))
    ∷ case (AskBytes 32) cabinet (ask₂ 20240630 2 ((oak, 0) ∷ [])) (Read 0 (pos 10000) (pos 20000) 2 0 0 EUR (oak_lines (0 ∷ 0 ∷ []) (0 ∷ 0 ∷ [])))
    ∷ case (AskBytes 32) cabinet (ask₂ 20240630 1 ((oak, 10_000) ∷ [])) (Read 0 (pos 22500) (pos 22500) 2 0 0 EUR (oak_lines (48 ∷ 212 ∷ []) (39 ∷ 16 ∷ [])))
    -- in version 1 too, and a byte of room too few in either
    ∷ case (AskBytes 32) cabinet (ask 20240630 1 (oak ∷ [])) (Read 0 (pos 11250) (pos 11250) 2 0 0 EUR (oak_lines (4 ∷ 226 ∷ []) (3 ∷ 232 ∷ [])))
    ∷ case (AskBytes 31) cabinet (ask 20240630 1 (oak ∷ [])) (Read 7 (pos 0) (pos 0) 0 0 0 no_unit (replicate 31 7))
    ∷ case (AskBytes 31) cabinet (ask₂ 20240630 1 ((oak, 1000) ∷ [])) (Read 7 (pos 0) (pos 0) 0 0 0 no_unit (replicate 31 7))
    -- the other calls: a calendar of K with half the oak, 625 and -353.8125, then 656.25 and 3.33 percent of 11156
    ∷ case (AskCalendar 20250102) book_k (ask₂ 20240629 1 ((oak, 500) ∷ []))
    (Text (text "20240629 20240630 0 EUR 10271\n20240701 20241231 0 EUR 10785\n20250101 20250102 4 --- 0\n"))
    -- cartons and numbers know no factor
    ∷ case AskGross boxes (ask₂ 20240630 1 ((oak, 500) ∷ [])) (Weight (pos 38000))
    ∷ case AskNumber (book_bytes (article_bytes T100 (text "S1") ∷ scheme_bytes (text "S1") [] (text "_") 1 0 0 1 ∷ []))
    (question_bytes₂ T100 sale EUR 20240630 1 ((oak, 0) ∷ []) (property_bytes 4 0 OAK ∷ property_bytes 2 1 [] ∷ [])) (Text (text "T100 OAK_--"))
    -- a basket of both versions; one question out of range refuses all
    ∷ case (AskBasket 130) cabinet (ask₂ 20240630 1 ((oak, 500) ∷ []) ++ ask 20240630 1 (oak ∷ []))
    (Left 0 130 (answer_of (41 ∷ 129 ∷ []) ++ (answer_of (43 ∷ 242 ∷ []) ++ (oak_lines (2 ∷ 113 ∷ []) (1 ∷ 244 ∷ []) ++ oak_lines (4 ∷ 226 ∷ []) (3 ∷ 232 ∷ [])))))
    ∷ case (AskBasket 130) cabinet (ask 20240630 1 (oak ∷ []) ++ ask₂ 20240630 1 ((oak, 10_001) ∷ [])) (Left 2 0 (replicate 130 7))
    ∷ []
  where
    -- of one piece in two lines, by the last two bytes of its price
    answer_of : List ℕ → List ℕ
    answer_of unit = 0 ∷ 0 ∷ 0 ∷ 0 ∷ 0 ∷ 0 ∷ 0 ∷ (unit ++ (0 ∷ 0 ∷ 0 ∷ 0 ∷ 0 ∷ 0 ∷ (unit ++ (69 ∷ 85 ∷ 82 ∷ 0 ∷ 0 ∷ 0 ∷ 0 ∷ 0 ∷ 0 ∷ 0 ∷ 2 ∷ 0 ∷ 0 ∷ 0 ∷ 0 ∷ 0 ∷ []))))
