-- "The price book": what stands at a limit is let in, and what stands one beyond it is not; so too what a byte may be, and what it may not. A book that
-- lacks the asked article is refused with 3, and bytes that are no book with 1; a question that an empty book cannot answer with 3, and one that is none
-- with 2.
use Prim.Native.Nat.{ℕ, ◌^◌}
use mathlib.Core.Path.{◌≡◌}
use mathlib.Core.Bool.{true, false}
use mathlib.Core.List.{List, [], ◌∷◌, ◌++◌, map}
use mathlib.Core.Option.{none}
use lib.IntN.{ℤ, pos}
use lib.Dec.{leb}
use lib.ListN.{length, set, replicate}
use Rattle.rules.specs.Letters.{text, letter}
use Rattle.rules.specs.Book.{sale, base}
use Rattle.rules.specs.Layout.{◌>>=◌, whole, repeated}
use Rattle.rules.specs.Bytes.{head}
use Rattle.rules.specs.BookLayout.{records, one_record, no_unit, eight}
use Rattle.rules.specs.TextBook.{entries, entry}
use Rattle.rules.specs.declared.Value.{Value}
use Rattle.rules.specs.RowBytes.{name_bytes, record_bytes, row_bytes}
use Rattle.rules.proofs.Encode.{book_bytes, article_bytes, rounding_bytes, pack_bytes, scheme_bytes, property_bytes, question_bytes, question_in, question_bytes₂, factor_bytes}
use Rattle.rules.proofs.Cases.{AskPrice, Refusal, Case, case, minus, fixed, percent, A1, EUR, ask}

-- ---- the words

-- a name of so many letters
abbrev letters : ℕ → List ℕ
letters n = replicate n (letter "Z")

-- bytes, each time with one of them exchanged: its place, and the other byte
abbrev spoilt : List ℕ → List (ℕ × ℕ) → List (List ℕ)
spoilt s changes = map (λ c. set s c.0 c.1) changes

-- ---- articles and price rows

abbrev row_of : List ℕ → List ℕ → Value → List ℕ
row_of article condition value =
    row_bytes
    (record {
      article = article;
      condition = condition;
      sort = sale;
      level = base;
      rule = 1;
      text = 0;
      value = value;
      currency = EUR;
      from = 0;
      to = 0;
      up_to = 0;
      rounding = 0;
    })

-- its kind is byte 2, its sort 7, its level 8, its rule 9, its flag 14, its currency from 19 on
abbrev any_row : List ℕ
any_row = row_of (text "B2") [] (fixed (pos 1))

abbrev rows_in : List (List ℕ)
rows_in =
    article_bytes (letters 1) []
    ∷ article_bytes (letters 40) (letters 20)
    ∷ article_bytes (32 ∷ 126 ∷ 160 ∷ 255 ∷ []) []
    ∷ row_of (letters 1) [] (fixed (pos 100_000_000))
    ∷ row_of (letters 40) (letters 20) (fixed (minus 100_000_000))
    ∷ row_of (letters 1) [] (percent (pos 100_000))
    ∷ row_of (letters 1) [] (percent (minus 100_000))
    ∷ spoilt any_row ((19, letter "A") ∷ (19, letter "Z") ∷ [])

abbrev rows_out : List (List ℕ)
rows_out =
    article_bytes [] []
    ∷ article_bytes (letters 41) []
    ∷ article_bytes A1 (letters 21)
    ∷ article_bytes (31 ∷ []) []
    ∷ article_bytes (127 ∷ []) []
    ∷ article_bytes (159 ∷ []) []
    ∷ article_bytes (256 ∷ []) []
    ∷ record_bytes 1 (1 ∷ 65 ∷ 0 ∷ 0 ∷ [])
    ∷ row_of [] [] (fixed (pos 1))
    ∷ row_of (letters 41) [] (fixed (pos 1))
    ∷ row_of A1 (letters 21) (fixed (pos 1))
    ∷ row_of A1 [] (fixed (pos 100_000_001))
    ∷ row_of A1 [] (fixed (minus 100_000_001))
    ∷ row_of A1 [] (percent (pos 100_001))
    ∷ row_of A1 [] (percent (minus 100_001))
    ∷ spoilt any_row ((2, 0) ∷ (2, 6) ∷ (7, letter "Q") ∷ (8, letter "C") ∷ (9, 0) ∷ (9, 3) ∷ (14, 2) ∷ (19, letter "@") ∷ (19, letter "[") ∷ [])

-- ---- roundings

abbrev roundings_in : List (List ℕ)
roundings_in = rounding_bytes 1 0 1 (pos 1_000_000) (pos 1_000_000) ∷ rounding_bytes 65_535 2 1_000_000 (minus 1_000_000) (minus 1_000_000) ∷ []

abbrev roundings_out : List (List ℕ)
roundings_out =
    rounding_bytes 0 0 1 (pos 0) (pos 0)
    ∷ rounding_bytes 1 3 1 (pos 0) (pos 0)
    ∷ rounding_bytes 1 0 0 (pos 0) (pos 0)
    ∷ rounding_bytes 1 0 1_000_001 (pos 0) (pos 0)
    ∷ rounding_bytes 1 0 1 (pos 1_000_001) (pos 0)
    ∷ rounding_bytes 1 0 1 (minus 1_000_001) (pos 0)
    ∷ rounding_bytes 1 0 1 (pos 0) (pos 1_000_001)
    ∷ rounding_bytes 1 0 1 (pos 0) (minus 1_000_001)
    ∷ []

-- ---- packaging

abbrev units : List ℕ → List ℕ → List ℕ → List (List ℕ)
units length volume weight = length ∷ volume ∷ weight ∷ []

abbrev no_units : List (List ℕ)
no_units = units no_unit no_unit no_unit

abbrev all_units : List (List ℕ)
all_units = units (text "MMT") (text "LTR") (text "KGM")

abbrev nothing : List ℤ
nothing = replicate 8 (pos 0)

-- a packaging record of this article and condition that has no value
abbrev empty : List ℕ → List ℕ → List ℕ
empty article condition = pack_bytes article condition 0 nothing no_units

-- six values of one size, and two of another
abbrev full : List ℕ → List ℕ → ℤ → ℤ → List ℕ
full article condition physical count = pack_bytes article condition 255 (replicate 6 physical ++ replicate 2 count) all_units

-- one value alone, at its place
abbrev only : ℕ → ℤ → List (List ℕ) → List ℕ
only i z us = pack_bytes A1 [] (2 ^ i) (set nothing i z) us

abbrev in_units : List ℕ → List ℕ → List ℕ → List ℕ
in_units length volume weight = pack_bytes A1 [] 0 nothing (units length volume weight)

abbrev packs_in : List (List ℕ)
packs_in =
    full (letters 1) [] (pos 10_000_000) (pos 10_000)
    ∷ full (letters 40) (letters 20) (minus 10_000_000) (minus 10_000)
    ∷ empty (text "*") (letters 1)
    ∷ only 6 (pos 1) no_units
    ∷ only 7 (pos 1) no_units
    ∷ in_units (text "CMT") (text "INQ") (text "LBR")
    ∷ in_units (text "FOT") (text "MTQ") (text "MGM")
    ∷ in_units (text "INH") no_unit no_unit
    ∷ in_units (text "MTR") no_unit no_unit
    ∷ []

abbrev packs_out : List (List ℕ)
packs_out =
    empty [] []
    ∷ empty (letters 41) []
    ∷ empty A1 (letters 21)
    ∷ empty (text "*") []
    ∷ only 0 (pos 10_000_001) all_units
    ∷ only 5 (minus 10_000_001) all_units
    ∷ only 6 (pos 10_001) all_units
    ∷ only 7 (minus 10_001) all_units
    ∷ in_units (text "LTR") no_unit no_unit
    ∷ in_units no_unit (text "KGM") no_unit
    ∷ in_units no_unit no_unit (text "MMT")
    ∷ (map (λ i. only i (pos 1) no_units) (0 ∷ 1 ∷ 2 ∷ 3 ∷ 4 ∷ 5 ∷ []) ++ map (λ i. pack_bytes A1 [] 0 (set nothing i (pos 1)) all_units) eight)

-- ---- schemes

abbrev scheme : List ℕ → List ℕ → List ℕ → List ℕ
scheme id number_separator value_separator = scheme_bytes id number_separator value_separator 1 0 0 0

-- trimmed: the value separator, the hidden and the unselected character
abbrev trimmed : List ℕ → ℕ → ℕ → List ℕ
trimmed separator hidden unselected = scheme_bytes A1 [] separator 1 hidden unselected 1

abbrev schemes_in : List (List ℕ)
schemes_in =
    scheme (letters 1) [] []
    ∷ scheme (letters 20) (letters 8) (letters 8)
    ∷ trimmed (text "--") 0 0
    ∷ trimmed (text "-") 32 255
    ∷ trimmed (text "X") 160 126
    ∷ []

-- in a scheme of two letters whose value separator is one byte, byte 9 is the visibility; then come the two characters, and trim
abbrev schemes_out : List (List ℕ)
schemes_out =
    scheme [] [] []
    ∷ scheme (letters 21) [] []
    ∷ scheme A1 (letters 9) []
    ∷ scheme A1 [] (letters 9)
    ∷ trimmed [] 0 0
    ∷ trimmed (text "-") 0 0
    ∷ trimmed (text "X") 0 0
    ∷ trimmed (text "+") (letter "+") 0
    ∷ trimmed (text "+") 0 (letter "+")
    ∷ spoilt (scheme A1 [] (text "+")) ((9, 2) ∷ (10, 31) ∷ (11, 127) ∷ (12, 2) ∷ [])

-- ---- questions

abbrev quantity : ℕ → List ℕ
quantity n = question_bytes A1 sale EUR 20240630 n [] []

abbrev granting : List (List ℕ) → List ℕ
granting names = question_bytes A1 sale EUR 20240630 1 names []

abbrev with : List (List ℕ) → List ℕ
with properties = question_bytes A1 sale EUR 20240630 1 [] properties

-- names with their factors, and how they stand in bytes
abbrev factors : List (List ℕ × ℕ) → List ℕ
factors granted = question_bytes₂ A1 sale EUR 20240630 1 granted []

abbrev granted₂ : ℕ → List (List ℕ) → List ℕ
granted₂ version names = question_in version A1 sale EUR 20240630 1 names []

abbrev questions_in : List (List ℕ)
questions_in =
    question_bytes (letters 1) sale no_unit 10101 1 (letters 1 ∷ []) (property_bytes 1 0 (letters 1) ∷ property_bytes 1 1 [] ∷ property_bytes 1 2 [] ∷ [])
    ∷ question_bytes (letters 40) sale EUR 99991231 100_000 (replicate 32 (letters 20)) (replicate 32 (property_bytes 30 0 (letters 30)))
    ∷ question_bytes₂ (letters 40) sale EUR 99991231 100_000 (replicate 32 (letters 20, 10_000)) (replicate 32 (property_bytes 30 0 (letters 30)))
    ∷ factors []
    ∷ factors ((letters 1, 0) ∷ [])
    ∷ []

-- a question for A1 has its length in byte 3, its version in 4, its sort in 8, its currency from 9 on; its day ends in byte 15, and June has no 31st
abbrev questions_out : List (List ℕ)
questions_out =
    question_bytes [] sale EUR 20240630 1 [] []
    ∷ question_bytes (letters 41) sale EUR 20240630 1 [] []
    ∷ quantity 0
    ∷ quantity 100_001
    ∷ (quantity 1 ++ (0 ∷ []))
    ∷ granting ([] ∷ [])
    ∷ granting (letters 21 ∷ [])
    ∷ granting (replicate 33 (letters 1))
    -- a factor too great, also on a repeat; names without factors in version 2, and with them in version 1; a factor of one byte; 33 names
    ∷ factors ((letters 1, 10_001) ∷ [])
    ∷ factors ((letters 1, 65_535) ∷ [])
    ∷ factors ((letters 1, 1000) ∷ (letters 1, 10_001) ∷ [])
    ∷ granted₂ 2 (name_bytes (letters 1) ∷ [])
    ∷ granted₂ 1 (factor_bytes (letters 1, 1000) ∷ [])
    ∷ granted₂ 2 ((name_bytes (letters 1) ++ (232 ∷ [])) ∷ [])
    ∷ factors (replicate 33 (letters 1, 1000))
    ∷ with (replicate 33 (property_bytes 1 1 []))
    ∷ (map (λ p. with (p ∷ []))
    (property_bytes 0 1 []
    ∷ property_bytes 31 1 []
    ∷ property_bytes 1 3 []
    ∷ property_bytes 2 0 (letters 3)
    ∷ property_bytes 1 0 []
    ∷ property_bytes 1 1 (letters 1)
    ∷ property_bytes 1 2 (letters 1)
    ∷ map (λ b. property_bytes 1 0 (b ∷ [])) (letter " " ∷ 160 ∷ letter "\\" ∷ []))
    ++ spoilt (quantity 1) ((3, 21) ∷ (3, 23) ∷ (4, 0) ∷ (4, 3) ∷ (8, letter "Q") ∷ (9, 0) ∷ (9, letter "e") ∷ (15, 247) ∷ []))

-- ---- all of them

-- a book, by the number with which it is refused
abbrev judged : ℕ → List ℕ → Case
judged number b = case AskPrice b (ask 20240630 1 []) (Refusal number)

abbrev asked : ℕ → List ℕ → Case
asked number q = case AskPrice (book_bytes []) q (Refusal number)

-- what is let in stands in one book; what is not, each by itself
abbrev pub limits : List Case
limits =
    judged 3 (book_bytes (rows_in ++ (roundings_in ++ (packs_in ++ schemes_in))))
    ∷ (map (λ r. judged 1 (book_bytes (r ∷ []))) (rows_out ++ (roundings_out ++ (packs_out ++ schemes_out)))
    ++ (map (judged 1) (spoilt (book_bytes []) ((3, 4) ∷ (3, 6) ∷ (4, 2) ∷ [])) ++ (map (asked 3) questions_in ++ map (asked 2) questions_out)))

-- ---- the longest book

-- No list of that length is written down, so it is said of all: a book or a text book has at most 4,194,304 bytes, and up to there its length is no matter.
pub longest_book : (s : List ℕ) → leb (length s) 4_194_304 ≡ false → (records s ≡ none) × (entries s ≡ none)
unfolding records entries
longest_book s h = (rw (h), rw (h))

pub long_book : (s : List ℕ) → leb (length s) 4_194_304 ≡ true
    → (records s ≡ whole (head (length s) >>= λ _. repeated one_record) s) × (entries s ≡ whole (head (length s) >>= λ _. repeated (entry (length s))) s)
unfolding records entries
long_book s h = (rw (h), rw (h))
