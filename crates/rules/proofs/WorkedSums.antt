-- "Sums worked by hand" and "Traps that have fooled price plugins": one table, one statement, closed by computation. What a case is stands in Cases.antt,
-- the cases that try the layouts at their limits in Limits.antt, those of factors in FactorSums.antt, those of umlauts in RaiseSums.antt, those of
-- baskets in BasketSums.antt.
use Prim.Native.Nat.{ℕ, ◌-◌}
use mathlib.Core.Path.{◌≡◌, refl}
use mathlib.Core.List.{List, [], ◌∷◌, ◌++◌, map}
use lib.IntN.{ℤ, pos}
use lib.ListN.{length, take, set, replicate}
use Rattle.rules.specs.Letters.{text}
use Rattle.rules.specs.Bytes.{bytes_of}
use Rattle.rules.specs.Book.{Row, sale, purchase, base, surcharge, discount}
use Rattle.rules.specs.BookLayout.{no_unit}
use Rattle.rules.specs.RowBytes.{row_bytes}
use Rattle.rules.proofs.Encode.{book_bytes, article_bytes, rounding_bytes, pack_bytes, scheme_bytes, property_bytes, question_bytes}
use Rattle.rules.proofs.Cases.{AskPrice, AskNumber, AskGross, AskCalendar, AskBytes, AskText, AskStretches, AskInput}
use Rattle.rules.proofs.Cases.{Listed, Text, Weight, Refusal, Read, InBook, Case, case, found}
use Rattle.rules.proofs.Cases.{minus, fixed, percent, A1, T100, OAK, oak, EUR, USD, row, in2024, base_row, book_of, ask}
use Rattle.rules.proofs.Limits.{limits}
use Rattle.rules.proofs.FactorSums.{factors}
use Rattle.rules.proofs.RaiseSums.{raisings}
use Rattle.rules.proofs.BasketSums.{baskets}

-- ---- the books

abbrev book_k : List ℕ
book_k =
    book_of
    (base_row 10000 20240101 20240630
    ∷ base_row 10500 20240701 20241231
    ∷ row OAK surcharge 1 (percent (pos 1250)) EUR 20240101 20241231 0 0
    ∷ row [] discount 2 (percent (minus 333)) EUR 20240101 20241231 0 0
    ∷ []) []

abbrev book5 : List ℕ
book5 = book_of (in2024 base 1 (fixed (pos 50)) EUR 0 0 ∷ in2024 discount 2 (percent (minus 100)) EUR 0 0 ∷ []) []

-- 12.5 percent of 10500 is 1312.5
abbrev book6 : ℕ → ℕ → List ℕ
book6 way step = book_of (in2024 base 1 (fixed (pos 10500)) EUR 0 0 ∷ in2024 surcharge 1 (percent (pos 1250)) EUR 0 7 ∷ []) (rounding_bytes 7 way step (pos 0) (pos 0) ∷ [])

-- the same as a discount, with cents added before and after
abbrev book_halves : ℕ → ℤ → ℤ → List ℕ
book_halves step before after = book_of (in2024 base 1 (fixed (pos 10500)) EUR 0 0 ∷ in2024 discount 1 (percent (minus 1250)) EUR 0 7 ∷ []) (rounding_bytes 7 2 step before after ∷ [])

abbrev book7 : List ℕ
book7 = book_of (in2024 base 1 (fixed (pos 9000)) EUR 9 0 ∷ in2024 base 1 (fixed (pos 8000)) EUR 0 0 ∷ []) []

abbrev book8 : ℕ → List ℕ
book8 trim = book_bytes (article_bytes T100 (text "S1") ∷ scheme_bytes (text "S1") [] (text "_") 1 0 0 trim ∷ [])

abbrev question8 : List ℕ
question8 = question_bytes T100 sale EUR 20240630 1 [] (property_bytes 4 0 OAK ∷ property_bytes 2 1 [] ∷ property_bytes 3 2 [] ∷ [])

abbrev weights : List ℕ → List ℕ → ℕ → ℕ → ℕ → ℕ → List ℕ
weights article condition present tare net items =
    pack_bytes article condition present (pos 0 ∷ pos 0 ∷ pos 0 ∷ pos 0 ∷ pos tare ∷ pos net ∷ pos items ∷ pos 0 ∷ []) (no_unit ∷ no_unit ∷ text "KGM" ∷ [])

-- presence bits: tare 16, net 32, items 64
abbrev book9 : List ℕ
book9 = book_bytes (article_bytes A1 [] ∷ weights A1 [] 112 2000 15000 2 ∷ weights (text "*") OAK 32 0 3000 0 ∷ [])

-- a book with another scheme, the article T100, and then its own scheme S1
abbrev numbered : List ℕ → List ℕ
numbered scheme = book_bytes (scheme_bytes (text "S0") [] (text "_") 1 0 0 0 ∷ article_bytes T100 (text "S1") ∷ scheme ∷ [])

-- the program's input for the calendar of K
abbrev input_k : List ℕ
input_k = book_k ++ (ask 20240629 1 (oak ∷ []) ++ bytes_of 4 20250102)

-- ---- the table

abbrev sums : List Case
sums =
    -- P1
    case AskPrice book_k (ask 20240630 1 (oak ∷ [])) (Listed (pos 10000 ∷ pos 1250 ∷ minus 375 ∷ []) (pos 10875))
    -- P2
    ∷ case AskPrice book_k (ask 20240701 1 (oak ∷ [])) (Listed (pos 10500 ∷ pos 1313 ∷ minus 393 ∷ []) (pos 11420))
    -- P3
    ∷ case AskPrice book_k (ask 20240630 1 []) (Listed (pos 10000 ∷ minus 333 ∷ []) (pos 9667))
    -- P4
    ∷ case AskPrice book_k (ask 20250101 1 (oak ∷ [])) (Refusal 4)
    -- P5
    ∷ case AskPrice book5 (ask 20240630 1 []) (Listed (pos 50 ∷ minus 1 ∷ []) (pos 49))
    -- P6: commercial by 5, up by 100, down by 100
    ∷ case AskPrice (book6 2 5) (ask 20240630 1 []) (Listed (pos 10500 ∷ pos 1315 ∷ []) (pos 11815))
    ∷ case AskPrice (book6 1 100) (ask 20240630 1 []) (Listed (pos 10500 ∷ pos 1400 ∷ []) (pos 11900))
    ∷ case AskPrice (book6 0 100) (ask 20240630 1 []) (Listed (pos 10500 ∷ pos 1300 ∷ []) (pos 11800))
    -- halves of a discount: -1312.5 by 1, by 5 (no half), by 25; a half only once 12 are added; one above zero once 2625 are; the 14 behind it do not count
    ∷ case AskPrice (book_halves 1 (pos 0) (pos 0)) (ask 20240630 1 []) (Listed (pos 10500 ∷ minus 1313 ∷ []) (pos 9187))
    ∷ case AskPrice (book_halves 5 (pos 0) (pos 0)) (ask 20240630 1 []) (Listed (pos 10500 ∷ minus 1315 ∷ []) (pos 9185))
    ∷ case AskPrice (book_halves 25 (pos 0) (pos 0)) (ask 20240630 1 []) (Listed (pos 10500 ∷ minus 1325 ∷ []) (pos 9175))
    ∷ case AskPrice (book_halves 1 (pos 12) (pos 0)) (ask 20240630 1 []) (Listed (pos 10500 ∷ minus 1301 ∷ []) (pos 9199))
    ∷ case AskPrice (book_halves 25 (pos 2625) (pos 0)) (ask 20240630 1 []) (Listed (pos 10500 ∷ pos 1325 ∷ []) (pos 11825))
    ∷ case AskPrice (book_halves 25 (pos 0) (pos 1400)) (ask 20240630 1 []) (Listed (pos 10500 ∷ pos 75 ∷ []) (pos 10575))
    -- P7: quantities 9 and 10
    ∷ case AskPrice book7 (ask 20240630 9 []) (Listed (pos 9000 ∷ []) (pos 9000))
    ∷ case AskPrice book7 (ask 20240630 10 []) (Listed (pos 8000 ∷ []) (pos 8000))
    -- P8: padded, trimmed
    ∷ case AskNumber (book8 0) question8 (Text (text "T100 OAK _--_XXX"))
    ∷ case AskNumber (book8 1) question8 (Text (text "T100 OAK_--_XXX"))
    -- P9: without and with the packaging of any article
    ∷ case AskGross book9 (ask 20240630 1 []) (Weight (pos 32000))
    ∷ case AskGross book9 (ask 20240630 1 (oak ∷ [])) (Weight (pos 38000))
    -- the calendar of K, whole
    ∷ case (AskCalendar 20250102) book_k (ask 20240629 1 (oak ∷ []))
    (Text (text "20240629 20240630 0 EUR 10875\n20240701 20241231 0 EUR 11420\n20250101 20250102 4 --- 0\n"))
    ∷ []

abbrev traps : List Case
traps =
    -- a row still holds on its to date
    case AskPrice (book_of (base_row 100 20240101 20240630 ∷ []) []) (ask 20240630 1 []) (Listed (pos 100 ∷ []) (pos 100))
    -- the row in euro is too small for ten, and yet rules the dearer foreign one out
    ∷ case AskPrice (book_of (in2024 base 1 (fixed (pos 100)) EUR 9 0 ∷ in2024 base 1 (fixed (pos 110)) USD 0 0 ∷ []) []) (ask 20240630 10 []) (Refusal 4)
    -- the only row in euro is a percentage at the base level, and rules nothing out
    ∷ case AskPrice (book_of (in2024 base 1 (percent (pos 100)) EUR 0 0 ∷ in2024 base 1 (fixed (pos 90)) USD 0 0 ∷ []) []) (ask 20240630 1 []) (Listed (pos 90 ∷ []) (pos 90))
    -- a refused day parts two stretches of one price
    ∷ case (AskCalendar 20240103) (book_of (base_row 100 20240101 20240101 ∷ base_row 100 20240103 20240103 ∷ []) []) (ask 20240101 1 [])
    (Text (text "20240101 20240101 0 EUR 100\n20240102 20240102 4 --- 0\n20240103 20240103 0 EUR 100\n"))
    -- rule 1 leaves the surcharge out
    ∷ case AskPrice (book_of (in2024 base 1 (fixed (pos 1000)) EUR 0 0 ∷ in2024 surcharge 1 (fixed (pos 500)) EUR 0 0 ∷ in2024 discount 1 (percent (minus 1000)) EUR 0 0 ∷ []) []) (ask 20240630 1 [])
    (Listed (pos 1000 ∷ pos 500 ∷ minus 100 ∷ []) (pos 1400))
    ∷ []

-- ---- more sums, for what the paper's own do not show

-- text 1 is `A` in the asked book; in the other it is `B`, and text 2 is `C`
abbrev asked_texts : List ℕ
asked_texts = 0 ∷ 0 ∷ 0 ∷ 12 ∷ 1 ∷ 0 ∷ 0 ∷ 0 ∷ 1 ∷ 0 ∷ 1 ∷ 65 ∷ []

abbrev other_texts : List ℕ
other_texts = 0 ∷ 0 ∷ 0 ∷ 19 ∷ 1 ∷ 0 ∷ 0 ∷ 0 ∷ 1 ∷ 0 ∷ 1 ∷ 66 ∷ 0 ∷ 0 ∷ 0 ∷ 2 ∷ 0 ∷ 1 ∷ 67 ∷ []

abbrev more : List Case
more =
    -- every byte of P1 for two pieces, a repeat and a name that brings nothing among the granted; the rest of the lent bytes stays
    case (AskBytes 50) book_k (ask 20240630 2 (oak ∷ OAK ∷ text "elm" ∷ []))
    (Read 0 (pos 10875) (pos 21750) 3 4 1 EUR
    (0 ∷ 0 ∷ 0 ∷ 0 ∷ 66 ∷ 0 ∷ 0 ∷ 0 ∷ 0 ∷ 0 ∷ 0 ∷ 0 ∷ 39 ∷ 16 ∷ 3 ∷ 232
    ∷ 0 ∷ 0 ∷ 0 ∷ 0 ∷ 88 ∷ 1 ∷ 0 ∷ 0 ∷ 0 ∷ 0 ∷ 0 ∷ 0 ∷ 4 ∷ 226 ∷ 3 ∷ 232
    ∷ 0 ∷ 0 ∷ 0 ∷ 0 ∷ 68 ∷ 0 ∷ 255 ∷ 255 ∷ 255 ∷ 255 ∷ 255 ∷ 255 ∷ 254 ∷ 137 ∷ 3 ∷ 232
    ∷ 7 ∷ 7 ∷ []))
    -- one byte too few: zeros, and no byte written
    ∷ case (AskBytes 47) book_k (ask 20240630 1 (oak ∷ [])) (Read 7 (pos 0) (pos 0) 0 0 0 no_unit (replicate 47 7))
    -- of two rows alike the later start, of two with one start the first
    ∷ case AskPrice (book_of (base_row 1 20240101 20241231 ∷ base_row 2 20240201 20241231 ∷ base_row 3 20240201 20241231 ∷ []) []) (ask 20240630 1 []) (Listed (pos 2 ∷ []) (pos 2))
    -- 95 and 4 are 99, down to 90, less 1
    ∷ case AskPrice (book_of (in2024 base 1 (fixed (pos 95)) EUR 0 7 ∷ []) (rounding_bytes 7 0 10 (pos 4) (minus 1) ∷ [])) (ask 20240630 1 []) (Listed (pos 89 ∷ []) (pos 89))
    -- below zero, down goes away from it
    ∷ case AskPrice (book_of (in2024 base 1 (fixed (minus 95)) EUR 0 7 ∷ []) (rounding_bytes 7 0 10 (pos 0) (pos 0) ∷ [])) (ask 20240630 1 []) (Listed (minus 100 ∷ []) (minus 100))
    -- a foreign amount; a total just in range, and one past it
    ∷ case AskPrice (book_of (in2024 base 1 (fixed (pos 100)) EUR 0 0 ∷ in2024 surcharge 1 (fixed (pos 1)) USD 0 0 ∷ []) []) (ask 20240630 1 []) (Refusal 5)
    ∷ case AskPrice (book_of (in2024 base 1 (fixed (pos 100_000_000)) EUR 0 0 ∷ in2024 surcharge 1 (percent (pos 90_000)) EUR 0 0 ∷ []) []) (ask 20240630 1 []) (Listed (pos 100_000_000 ∷ pos 900_000_000 ∷ []) (pos 1_000_000_000))
    ∷ case AskPrice (book_of (in2024 base 1 (fixed (pos 100_000_000)) EUR 0 0 ∷ in2024 surcharge 1 (percent (pos 90_001)) EUR 0 0 ∷ []) []) (ask 20240630 1 []) (Refusal 6)
    -- out of range, and in two currencies: the currencies come first
    ∷ case AskPrice (book_of (in2024 base 1 (fixed (pos 100_000_000)) EUR 0 0 ∷ in2024 surcharge 1 (percent (pos 90_001)) EUR 0 0 ∷ in2024 discount 1 (fixed (minus 1)) USD 0 0 ∷ []) []) (ask 20240630 1 []) (Refusal 5)
    -- a text of both books is the asked book's, one of the other is the fallback's
    ∷ case (AskText 1) asked_texts other_texts (InBook 1 11 (text "A"))
    ∷ case (AskText 2) asked_texts other_texts (InBook 2 18 (text "C"))
    ∷ case (AskText 3) asked_texts other_texts (Refusal 12)
    -- the 20 bytes of a stretch
    ∷ case (AskStretches 20240630) book_k (ask 20240629 1 (oak ∷ []))
    (Text (1 ∷ 52 ∷ 216 ∷ 245 ∷ 1 ∷ 52 ∷ 216 ∷ 246 ∷ 0 ∷ 69 ∷ 85 ∷ 82 ∷ 0 ∷ 0 ∷ 0 ∷ 0 ∷ 0 ∷ 0 ∷ 42 ∷ 123 ∷ []))
    -- pounds against kilograms
    ∷ case AskGross (book_bytes (article_bytes A1 [] ∷ weights A1 [] 112 2000 15000 2 ∷ pack_bytes (text "*") OAK 0 (replicate 8 (pos 0)) (no_unit ∷ no_unit ∷ text "LBR" ∷ []) ∷ [])) (ask 20240630 1 (oak ∷ [])) (Refusal 11)
    ∷ []

-- ---- what faults put into the rules on purpose had got past

-- a row of 2024 whose text has a number of four different bytes
abbrev row_of : List ℕ → ℕ → ℕ → Row
row_of article sort cents =
    record {
      article = article;
      condition = [];
      sort = sort;
      level = base;
      rule = 1;
      text = 16_909_060;
      value = fixed (pos cents);
      currency = EUR;
      from = 20240101;
      to = 20241231;
      up_to = 0;
      rounding = 0;
    }

-- ten times a base, and a discount
abbrev greatest : ℤ → ℤ → List ℕ
greatest cents more =
    book_of (in2024 base 1 (fixed cents) EUR 0 0 ∷ in2024 surcharge 1 (percent (pos 90_000)) EUR 0 0 ∷ in2024 discount 1 (fixed more) EUR 0 0 ∷ []) []

abbrev choices : List Case
choices =
    -- rows of another sort or another article are of no component that is asked for
    case AskPrice (book_of (row_of A1 purchase 7 ∷ row_of (text "B") sale 8 ∷ base_row 100 20240101 20241231 ∷ []) []) (ask 20240630 1 []) (Listed (pos 100 ∷ []) (pos 100))
    -- purchase, and no currency asked
    ∷ case AskPrice (book_of (row_of A1 purchase 7 ∷ []) []) (question_bytes A1 purchase no_unit 20240630 1 [] []) (Listed (pos 7 ∷ []) (pos 7))
    -- a percentage in another currency is no foreign amount
    ∷ case AskPrice (book_of (in2024 base 1 (fixed (pos 100)) EUR 0 0 ∷ in2024 surcharge 1 (percent (pos 1000)) USD 0 0 ∷ []) []) (ask 20240630 1 []) (Listed (pos 100 ∷ pos 10 ∷ []) (pos 110))
    -- each row has the rounding of its own number, and number 0 has none
    ∷ case AskPrice (book_of (in2024 base 1 (fixed (pos 95)) EUR 0 0 ∷ in2024 surcharge 1 (fixed (pos 95)) EUR 0 8 ∷ []) (rounding_bytes 7 1 10 (pos 0) (pos 0) ∷ rounding_bytes 8 0 10 (pos 0) (pos 0) ∷ [])) (ask 20240630 1 [])
    (Listed (pos 95 ∷ pos 90 ∷ []) (pos 185))
    -- a cent more than the range has; as far below zero, and a cent more
    ∷ case AskPrice (greatest (pos 100_000_000) (pos 1)) (ask 20240630 1 []) (Refusal 6)
    ∷ case AskPrice (greatest (minus 100_000_000) (pos 0)) (ask 20240630 1 []) (Listed (minus 100_000_000 ∷ minus 900_000_000 ∷ pos 0 ∷ []) (minus 1_000_000_000))
    ∷ case AskPrice (greatest (minus 100_000_000) (minus 1)) (ask 20240630 1 []) (Refusal 6)
    -- a total that left its range and came back
    ∷ case AskPrice (book_of (in2024 base 1 (fixed (pos 100_000_000)) EUR 0 0 ∷ in2024 surcharge 1 (percent (pos 90_001)) EUR 0 0 ∷ in2024 discount 1 (fixed (minus 20000)) EUR 0 0 ∷ []) []) (ask 20240630 1 []) (Refusal 6)
    -- no limit is above the greatest limit
    ∷ case AskPrice (book_of (in2024 base 1 (fixed (pos 8)) EUR 0 0 ∷ in2024 base 1 (fixed (pos 9)) EUR 4_294_967_295 0 ∷ []) []) (ask 20240630 10 []) (Listed (pos 9 ∷ []) (pos 9))
    -- a line shows its row's text number, and its place; the unconditioned row goes first, wherever it stands
    ∷ case (AskBytes 32) (book_of (row (text "ZZ") base 1 (fixed (pos 1)) EUR 20240101 20241231 0 0 ∷ row_of A1 sale 2 ∷ []) []) (ask 20240630 1 (text "zz" ∷ []))
    (Read 0 (pos 3) (pos 3) 2 0 0 EUR (1 ∷ 2 ∷ 3 ∷ 4 ∷ 66 ∷ 0 ∷ 0 ∷ 0 ∷ 0 ∷ 0 ∷ 0 ∷ 0 ∷ 0 ∷ 2 ∷ 3 ∷ 232 ∷ 0 ∷ 0 ∷ 0 ∷ 0 ∷ 66 ∷ 1 ∷ 0 ∷ 0 ∷ 0 ∷ 0 ∷ 0 ∷ 0 ∷ 0 ∷ 1 ∷ 3 ∷ 232 ∷ []))
    -- a to z become capitals, and no byte beside them
    ∷ case AskPrice (book_of (row (text "AZ`{") base 1 (fixed (pos 5)) EUR 20240101 20241231 0 0 ∷ []) []) (ask 20240630 1 (text "az`{" ∷ [])) (Listed (pos 5 ∷ []) (pos 5))
    -- an amount below zero is printed with its sign
    ∷ case (AskCalendar 20240629) (book_of (in2024 base 1 (fixed (minus 1)) EUR 0 0 ∷ []) []) (ask 20240629 1 []) (Text (text "20240629 20240629 0 EUR -1\n"))
    -- the scheme is the article's own, with separator and characters given
    ∷ case AskNumber (numbered (scheme_bytes (text "S1") (text "/") (text "_") 1 35 63 0)) question8 (Text (text "T100/OAK _##_???"))
    -- visibility 0 leaves the hidden one out, and its separator; where nothing is left, the number's separator too
    ∷ case AskNumber (numbered (scheme_bytes (text "S1") [] (text "_") 0 0 0 0)) question8 (Text (text "T100 OAK _XXX"))
    ∷ case AskNumber (numbered (scheme_bytes (text "S1") (text "/") (text "_") 0 0 0 0)) question8 (Text (text "T100/OAK _XXX"))
    ∷ case AskNumber (numbered (scheme_bytes (text "S1") (text "/") (text "_") 0 0 0 0)) (question_bytes T100 sale EUR 20240630 1 [] (property_bytes 2 1 [] ∷ [])) (Text T100)
    -- an article's own packaging goes before that of any article
    ∷ case AskGross (book_bytes (article_bytes A1 [] ∷ weights A1 [] 112 2000 15000 2 ∷ weights (text "*") OAK 32 0 3000 0 ∷ weights A1 OAK 32 0 500 0 ∷ [])) (ask 20240630 1 (oak ∷ [])) (Weight (pos 33000))
    -- and a name that is granted twice adds its packaging once
    ∷ case AskGross book9 (ask 20240630 1 (oak ∷ OAK ∷ [])) (Weight (pos 38000))
    -- as many days as a period may have, none of them with a price
    ∷ case (AskCalendar 20261231) (book_of [] []) (ask 20240101 1 []) (Text (text "20240101 20261231 4 --- 0\n"))
    ∷ []

abbrev refusals : List Case
refusals =
    -- no book, no question, no article
    case AskPrice [] [] (Refusal 1)
    ∷ case AskPrice book_k [] (Refusal 2)
    ∷ case AskPrice book_k (question_bytes (text "A2") sale EUR 20240630 1 [] []) (Refusal 3)
    -- a period that ends before it starts goes before an article that is not there
    ∷ case (AskCalendar 20240628) book_k (ask 20240629 1 []) (Text (text "refusal 9\n"))
    ∷ case (AskCalendar 20240628) book_k (question_bytes (text "A2") sale EUR 20240629 1 [] []) (Text (text "refusal 9\n"))
    -- an end that is no day, and a day more than a period may have
    ∷ case (AskCalendar 20240631) book_k (ask 20240629 1 []) (Text (text "refusal 9\n"))
    ∷ case (AskCalendar 20270101) (book_of [] []) (ask 20240101 1 []) (Text (text "refusal 9\n"))
    -- packaging under a condition alone
    ∷ case AskGross (book_bytes (article_bytes A1 [] ∷ weights A1 OAK 32 0 1 0 ∷ [])) (ask 20240630 1 []) (Refusal 8)
    -- a broken fallback, though the asked book has the text
    ∷ case (AskText 1) asked_texts [] (Refusal 1)
    -- text books of another length or version, or with a text that is cut; and two without a text
    ∷ case (AskText 1) (set asked_texts 3 11) other_texts (Refusal 1)
    ∷ case (AskText 1) (set asked_texts 4 2) other_texts (Refusal 1)
    ∷ case (AskText 1) (set asked_texts 10 2) other_texts (Refusal 1)
    ∷ case (AskText 1) (0 ∷ 0 ∷ 0 ∷ 5 ∷ 1 ∷ []) (0 ∷ 0 ∷ 0 ∷ 5 ∷ 1 ∷ []) (Refusal 12)
    -- the program's input: nothing at all; cut in the book's length, in the book, in the question's length, in the question
    ∷ case AskInput [] [] (Text (text "refusal 1\n"))
    ∷ case AskInput (take 3 book_k) [] (Text (text "refusal 1\n"))
    ∷ case AskInput (take (length book_k - 1) book_k) [] (Text (text "refusal 1\n"))
    ∷ case AskInput (book_k ++ (0 ∷ 0 ∷ [])) [] (Text (text "refusal 2\n"))
    ∷ case AskInput (take (length input_k - 5) input_k) [] (Text (text "refusal 2\n"))
    -- an end date that is missing, a byte short, a byte long
    ∷ case AskInput (take (length input_k - 4) input_k) [] (Text (text "refusal 9\n"))
    ∷ case AskInput (take (length input_k - 1) input_k) [] (Text (text "refusal 9\n"))
    ∷ case AskInput (input_k ++ (0 ∷ [])) [] (Text (text "refusal 9\n"))
    -- a broken book goes before a cut question, and a broken question before a wrong end date
    ∷ case AskInput (0 ∷ 0 ∷ 0 ∷ 5 ∷ 2 ∷ []) [] (Text (text "refusal 1\n"))
    ∷ case AskInput (book_k ++ (0 ∷ 0 ∷ 0 ∷ 5 ∷ 2 ∷ [])) [] (Text (text "refusal 2\n"))
    -- as long as an input may be, and a byte longer
    ∷ case AskInput (input_k ++ replicate (65_536 - length input_k) 0) [] (Text (text "refusal 9\n"))
    ∷ case AskInput (input_k ++ replicate (65_537 - length input_k) 0) [] (Text (text "refusal 1\n"))
    ∷ []

abbrev table : List Case
table = sums ++ (traps ++ (more ++ (choices ++ (refusals ++ (limits ++ (factors ++ (raisings ++ baskets)))))))

-- Every sum that was worked by hand, and every trap, comes out of the rules as the paper has it.
worked_sums : map found table ≡ map (λ c. c.worked) table
unfolding found row_bytes
worked_sums = refl
