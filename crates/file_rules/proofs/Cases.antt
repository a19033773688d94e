-- The price file: small files read and small books written, by computation.
use Prim.Native.Nat.{ℕ}
use Prim.Native.String as Str
use mathlib.Core.Path.{◌≡◌, refl}
use mathlib.Core.List.{List, [], ◌∷◌, ◌++◌, map}
use mathlib.Core.Option.{some, none}
use lib.IntN.{ℤ, pos, negsuc}
use Rattle.rules.specs.Lists.{join}
use Rattle.rules.specs.Letters.{text}
use Rattle.rules.specs.Program.{digits}
use Rattle.rules.specs.Book.{Row, sale, base}
use Rattle.rules.specs.BookLayout.{records}
use Rattle.rules.specs.RowBytes.{record_bytes, name_bytes, row_bytes, rows_bytes, book_with}
use Rattle.rules.specs.Placed.{placed_records}
use Rattle.rules.specs.PlacedRefusals.{ResultAt, Done, RefusedAt}
use Rattle.file_rules.specs.Fields.{lines_of, cut, inside, past_spaces, field, next_field, doubled, field_text, first_field_text}
use Rattle.file_rules.specs.Decimals.{quantity_in, date_in, value_in, digits_of, date_text, text_text, value_text}
use Rattle.file_rules.specs.PriceLine.{brought, line_text}
use Rattle.file_rules.specs.PriceFile.{distinct, text_names, place_in, numbered, lines_from, read_file, file_text, write_file}
use Rattle.rules.specs.declared.Value.{Value}
use Rattle.rules.specs.declared.Value.TheVariants.{Fixed, Percent}

data Ask : Type 0 where
  Read : List ℕ → ℕ → Ask
  Write : List ℕ → ℕ → Ask

data Found : Type 0 where
  Rows : List Row → Found
  Text : List ℕ → Found
  Refusal : ℕ → ℕ → Found

abbrev as_rows : ResultAt (List Row) → Found
as_rows (Done rs) = Rows rs
as_rows (RefusedAt n p) = Refusal n p

abbrev as_text : ResultAt (List Row) → Found
as_text (Done rs) = Text (file_text rs)
as_text (RefusedAt n p) = Refusal n p

found : Ask → Found
unfolding digits records row_bytes rows_bytes book_with placed_records lines_of cut inside past_spaces field next_field doubled field_text first_field_text quantity_in date_in value_in digits_of date_text text_text value_text brought line_text distinct text_names place_in numbered lines_from read_file file_text write_file
found (Read file room) = as_rows (read_file file room)
found (Write book room) = as_text (write_file book room)

record Case : Type 0 where
  ask : Ask
  worked : Found

abbrev case : Ask → Found → Case
case a w = record { ask = a; worked = w }

-- a row of sort S, level B and rule 1, in EUR
abbrev row : Str.String → Str.String → ℕ → Value → ℕ → ℕ → ℕ → ℕ → Row
row article condition t value from to up_to rounding =
    record { article = text article; condition = text condition; sort = sale; level = base; rule = 1; text = t; value = value; currency = text "EUR"; from = from; to = to; up_to = up_to; rounding = rounding }

abbrev euro : ℤ → Value
euro z = Fixed (record { 0 = z })

abbrev percent : ℤ → Value
percent z = Percent (record { 0 = z })

-- one line, one row
abbrev reads : Str.String → Row → Case
reads file r = case (Read (text file) 1000) (Rows (r ∷ []))

abbrev bad : Str.String → Case
bad file = case (Read (text file) 1000) (Refusal 13 1)

abbrev writes : Row → Str.String → Case
writes r file = case (Write (book_with (rows_bytes (r ∷ []))) 1000) (Text (text file))

-- ---- fields

abbrev fields : List Case
fields =
    reads "A1;OAK;S;B;1;;12.50;1;EUR;20240101;20241231;5;\n" (row "A1" "OAK" 0 (euro (pos 1250)) 20240101 20241231 5 0)
    ∷ reads "A1;;S;B;1;;12.50;0;EUR;;;0;\n" (row "A1" "" 0 (percent (pos 1250)) 0 0 0 0)
    ∷ reads "\"A;\"\"1\"\"\"  ;\"\";\"S\" ;B;1;;1;1;\"EUR\";\"\";;\"0\";\"\" " (row "A;\"1\"" "" 0 (euro (pos 100)) 0 0 0 0)
    ∷ reads "A\"1;#;S;B;1;;1;1;EUR;;;0;" (row "A\"1" "#" 0 (euro (pos 100)) 0 0 0 0)
    ∷ reads " \"A\";;S;B;1;;1;1;EUR;;;0;" (row " \"A\"" "" 0 (euro (pos 100)) 0 0 0 0)
    ∷ reads "\"#1\";;S;B;1;;1;1;EUR;;;0;" (row "#1" "" 0 (euro (pos 100)) 0 0 0 0)
    ∷ bad "\"A;;S;B;1;;1;1;EUR;;;0;"
    ∷ bad "\"A\"1;;S;B;1;;1;1;EUR;;;0;"
    ∷ bad "\"A\" 1;;S;B;1;;1;1;EUR;;;0;"
    ∷ bad "\"A\"1\";;S;B;1;;1;1;EUR;;;0;"
    ∷ bad ";;S;B;1;;1;1;EUR;;;0;"
    ∷ bad "A1;;S;B;1;;1;1;EUR;;;0;;"
    ∷ bad "A1;;S;B;1;;1;1;EUR;;;0"
    ∷ bad "A1;;S;B;1;;1;1;EUR;;;0;\r\n"
    ∷ bad "A1;;s;B;1;;1;1;EUR;;;0;"
    ∷ bad "A1;;S;C;1;;1;1;EUR;;;0;"
    ∷ bad "A1;;S;B;;;1;1;EUR;;;0;"
    ∷ bad "A1;;S;B;01;;1;1;EUR;;;0;"
    ∷ bad "A1;;S;B;1;;1;2;EUR;;;0;"
    ∷ bad "A1;;S;B;1;;1;1;;;;0;"
    ∷ bad "A1;;S;B;1;;1;1;eur;;;0;"
    ∷ bad "A1;;S;B;1;;1;1;EUR;;;0;R1"
    ∷ []

-- ---- lines and text names

abbrev ones : Str.String → List ℕ
ones name = text "A;;S;B;1;" ++ (text name ++ text ";1;1;EUR;;;0;\n")

abbrev one : ℕ → Row
one t = row "A" "" t (euro (pos 100)) 0 0 0 0

abbrev lines : List Case
lines =
    case (Read [] 0) (Rows [])
    ∷ case (Read (text "\n \t\n# x;\"\n#") 0) (Rows [])
    ∷ case (Read (ones "" ++ (text "\n" ++ ones "")) 1000) (Rows (one 0 ∷ one 0 ∷ []))
    ∷ case (Read (text "\n#\n" ++ (ones "" ++ text " #\n")) 0) (Refusal 13 4)
    ∷ case (Read (text "x\n" ++ (ones "" ++ text "y\n")) 0) (Refusal 13 1)
    ∷ case (Read (ones "") 35) (Rows (one 0 ∷ []))
    ∷ case (Read (ones "") 34) (Refusal 7 0)
    ∷ case (Read (join (map ones ("b" ∷ "a" ∷ "" ∷ "b" ∷ "B" ∷ "\"a\" " ∷ " " ∷ "2" ∷ []))) 1000)
    (Rows (map one (1 ∷ 2 ∷ 0 ∷ 1 ∷ 3 ∷ 2 ∷ 4 ∷ 5 ∷ [])))
    ∷ []

-- ---- written

abbrev written : List Case
written =
    writes (row "A1" "" 0 (euro (pos 0)) 0 0 0 0) "A1;;S;B;1;;0.00;1;EUR;;;0;\n"
    ∷ writes (row "#1" "#" 7 (euro (negsuc 4)) 10101 99999999 4294967295 0) "\"#1\";#;S;B;1;7;-0.05;1;EUR;00010101;99999999;4294967295;\n"
    ∷ writes (row "\"" "A;\"" 0 (percent (negsuc 99999)) 0 0 0 0) "\"\"\"\";\"A;\"\"\";S;B;1;;-1000.00;0;EUR;;;0;\n"
    ∷ writes (row "A\"1#" " \"" 0 (euro (pos 100000000)) 0 0 0 0) "A\"1#; \";S;B;1;;1000000.00;1;EUR;;;0;\n"
    ∷ case (Write (book_with []) 0) (Text [])
    ∷ case (Write (book_with (0 ∷ [])) 0) (Refusal 1 0)
    ∷ case (Write (book_with (rows_bytes (one 0 ∷ []))) 25) (Refusal 7 0)
    ∷ case (Write (book_with (rows_bytes (one 0 ∷ []))) 26) (Text (text "A;;S;B;1;;1.00;1;EUR;;;0;\n"))
    ∷ case (Write (book_with (record_bytes 1 (name_bytes (text "A") ++ name_bytes []) ++ rows_bytes (one 0 ∷ row "A" "" 0 (euro (pos 0)) 0 0 0 1 ∷ one 0 ∷ []))) 0) (Refusal 13 47)
    ∷ case (Write (book_with (rows_bytes (row "A" "" 0 (euro (pos 0)) 100000000 0 0 0 ∷ []))) 1000) (Refusal 13 6)
    ∷ case (Write (book_with (rows_bytes (row "A" "" 0 (euro (pos 0)) 0 100000000 0 0 ∷ []))) 1000) (Refusal 13 6)
    ∷ []

right : map (λ c. found c.ask) (fields ++ (lines ++ written)) ≡ map (λ c. c.worked) (fields ++ (lines ++ written))
unfolding found
right = refl

-- ---- numbers and dates

abbrev values : List (List ℕ)
values =
    map text ("5" ∷ "5." ∷ ".5" ∷ "-.05" ∷ "007.120" ∷ "-0.00" ∷ "0.00999" ∷ "1.005" ∷ "" ∷ "." ∷ "-" ∷ "--1" ∷ "+1" ∷ "1.2.3" ∷ " 1" ∷ "1 " ∷ "1,5" ∷ "1e2" ∷ [])

values_right : map value_in values
    ≡ map (λ (n : ℕ). some (pos n)) (500 ∷ 500 ∷ 50 ∷ []) ++
    (some (negsuc 4) ∷ some (pos 712) ∷ some (pos 0) ∷ none ∷ none ∷ none ∷ none ∷ none ∷ none ∷ none ∷ none ∷ none ∷ none ∷ none ∷ none ∷ [])
unfolding value_in cut
values_right = refl

dates_right : map date_in (map text ("" ∷ "20230229" ∷ "00000000" ∷ "99999999" ∷ "2024010" ∷ "202401011" ∷ " 2024010" ∷ "        " ∷ []))
    ≡ some 0 ∷ some 20230229 ∷ some 0 ∷ some 99999999 ∷ none ∷ none ∷ none ∷ none ∷ []
unfolding date_in
dates_right = refl

quantities_right : map quantity_in (map text ("0" ∷ "007" ∷ "4294967295" ∷ "4294967296" ∷ "" ∷ "-1" ∷ "1.0" ∷ []))
    ≡ some 0 ∷ some 7 ∷ some 4294967295 ∷ none ∷ none ∷ none ∷ none ∷ []
unfolding quantity_in
quantities_right = refl
