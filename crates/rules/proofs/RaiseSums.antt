-- "Raise umlauts too": sums worked by hand.
use Prim.Native.Nat.{ℕ}
use mathlib.Core.List.{List, [], ◌∷◌}
use lib.IntN.{pos}
use Rattle.rules.specs.Letters.{text}
use Rattle.rules.specs.Book.{surcharge}
use Rattle.rules.specs.BookLayout.{no_unit}
use Rattle.rules.proofs.Encode.{book_bytes, article_bytes, pack_bytes}
use Rattle.rules.proofs.Cases.{AskPrice, AskGross, AskBytes, Listed, Weight, Read, Case, case, fixed, A1, EUR, row, base_row, book_of, ask}

-- A1 costs 100, and 5 more under this condition
abbrev more : List ℕ → List ℕ
more condition = book_of (base_row 100 20240101 20241231 ∷ row condition surcharge 1 (fixed (pos 5)) EUR 20240101 20241231 0 0 ∷ []) []

abbrev granted : List ℕ → List ℕ → Case
granted sent condition = case AskPrice (more condition) (ask 20240630 1 (sent ∷ [])) (Listed (pos 100 ∷ pos 5 ∷ []) (pos 105))

abbrev lost : List ℕ → List ℕ → Case
lost sent condition = case AskPrice (more condition) (ask 20240630 1 (sent ∷ [])) (Listed (pos 100 ∷ []) (pos 100))

-- net 15 kilograms, and 3 more in green
abbrev boxes : List ℕ
boxes = book_bytes (article_bytes A1 [] ∷ net [] 15000 ∷ net (text "GRÜN") 3000 ∷ [])
  where
    net : List ℕ → ℕ → List ℕ
    net condition grams = pack_bytes A1 condition 112 (pos 0 ∷ pos 0 ∷ pos 0 ∷ pos 0 ∷ pos 0 ∷ pos grams ∷ pos 1 ∷ pos 0 ∷ []) (no_unit ∷ no_unit ∷ text "KGM" ∷ [])

abbrev pub raisings : List Case
raisings =
    granted (text "grün") (text "GRÜN")
    ∷ granted (text "GRÜN") (text "GRÜN")
    -- the first and the last letters on either side of the sign of division
    ∷ granted (text "àöøþ") (text "ÀÖØÞ")
    -- bytes 223, 247 and 255 stay, and so do 160 and 191
    ∷ granted (text "ß÷ÿ") (text "ß÷ÿ")
    ∷ granted (160 ∷ 191 ∷ []) (160 ∷ 191 ∷ [])
    ∷ lost (text "ß") (191 ∷ [])
    ∷ lost (text "÷") (text "×")
    ∷ lost (text "ÿ") (text "ß")
    -- a row stands as it is, and one with a small letter is never granted
    ∷ lost (text "grün") (text "grün")
    ∷ lost (text "grün") (text "GRüN")
    -- spelled three times it counts once, at its first place; the fourth name brings nothing
    ∷ case (AskBytes 32) (more (text "GRÜN")) (ask 20240630 1 (text "grün" ∷ text "GRÜN" ∷ text "Grün" ∷ text "BLAU" ∷ []))
    (Read 0 (pos 105) (pos 105) 2 8 1 EUR (0 ∷ 0 ∷ 0 ∷ 0 ∷ 66 ∷ 0 ∷ 0 ∷ 0 ∷ 0 ∷ 0 ∷ 0 ∷ 0 ∷ 0 ∷ 100 ∷ 3 ∷ 232 ∷ 0 ∷ 0 ∷ 0 ∷ 0 ∷ 88 ∷ 1 ∷ 0 ∷ 0 ∷ 0 ∷ 0 ∷ 0 ∷ 0 ∷ 0 ∷ 5 ∷ 3 ∷ 232 ∷ []))
    -- its carton too: 15 and 3 kilograms for two items
    ∷ case AskGross boxes (ask 20240630 1 (text "grün" ∷ text "GRÜN" ∷ [])) (Weight (pos 36000))
    ∷ []
