-- The price file (document 003, 1): its lines, and the fields of a line, read and written.
use Rattle.std.specs.Prelude.{ℕ, Bool, true, false, ◌||◌, List, [], ◌∷◌, ◌++◌, eqb, drop}
use Rattle.std.proofs.Math.Option.{Option, some, none}
use Rattle.rules.specs.Lists.{all, any}
use Rattle.rules.specs.Letters.{letter}
use Rattle.rules.specs.Layout.{Layout, ◌>>=◌, front}
use Rattle.rules.specs.Bytes.{one_of}

abbrev pub line_end : ℕ
line_end = letter "\n"

abbrev pub semicolon : ℕ
semicolon = letter ";"

abbrev pub quote : ℕ
quote = letter "\""

abbrev pub space : ℕ
space = letter " "

abbrev pub starts_with : ℕ → List ℕ → Bool
starts_with c [] = false
starts_with c (b ∷ s) = eqb b c

-- ---- lines

abbrev pub onto_first : ℕ → List (List ℕ) → List (List ℕ)
onto_first b [] = (b ∷ []) ∷ []
onto_first b (l ∷ ls) = (b ∷ l) ∷ ls

-- a line goes up to its line end, or to the end of the file; behind the last line end there is no line
unfoldable pub lines_of : List ℕ → List (List ℕ)
lines_of [] = []
lines_of (b ∷ s) = elim (eqb b line_end) [ true ↦ [] ∷ lines_of s | false ↦ onto_first b (lines_of s) ]

-- spaces and tabs, or nothing
abbrev pub is_blank : List ℕ → Bool
is_blank l = all (λ b. eqb b space || eqb b (letter "\t")) l

abbrev pub is_remark : List ℕ → Bool
is_remark l = starts_with (letter "#") l

-- ---- a field, read off the front of a line: the rest starts with its semicolon, if the line goes on

abbrev pub onto : ℕ → List ℕ × List ℕ → List ℕ × List ℕ
onto b p = (b ∷ p.0, p.1)

-- what stands before the first such byte, and the rest from that byte on
unfoldable pub cut : ℕ → List ℕ → List ℕ × List ℕ
cut c [] = ([], [])
cut c (b ∷ s) = elim (eqb c b) [ true ↦ ([], b ∷ s) | false ↦ onto b (cut c s) ]

-- behind an opening quote: two quotes stand for one, and one alone closes
unfoldable pub inside : Layout (List ℕ)
inside [] = none
inside (b ∷ []) = elim (eqb b quote) [ true ↦ some ([], []) | false ↦ none ]
inside (b ∷ (c ∷ s)) =
    elim (eqb b quote) [ true ↦ elim (eqb c quote) [ true ↦ front quote (inside s) | false ↦ some ([], c ∷ s) ] | false ↦ front b (inside (c ∷ s)) ]

unfoldable pub past_spaces : List ℕ → List ℕ
past_spaces [] = []
past_spaces (b ∷ s) = elim (eqb b space) [ true ↦ past_spaces s | false ↦ b ∷ s ]

-- spaces behind the closing quote do not count
abbrev pub spaced : Option (List ℕ × List ℕ) → Option (List ℕ × List ℕ)
spaced none = none
spaced (some p) = some (p.0, past_spaces p.1)

-- a field is in quotes where its first byte is one; any other ends before the next semicolon
abbrev pub field_by : Bool → Layout (List ℕ)
field_by true s = spaced (inside (drop 1 s))
field_by false s = some (cut semicolon s)

unfoldable pub field : Layout (List ℕ)
field s = field_by (starts_with quote s) s

-- a field behind another
unfoldable pub next_field : Layout (List ℕ)
next_field = do
  _ ← one_of (semicolon ∷ [])
  field

-- ---- a field, written

abbrev pub twice_if : Bool → ℕ → List ℕ → List ℕ
twice_if true b s = b ∷ b ∷ s
twice_if false b s = b ∷ s

unfoldable pub doubled : List ℕ → List ℕ
doubled [] = []
doubled (b ∷ s) = twice_if (eqb b quote) b (doubled s)

abbrev pub in_quotes : Bool → List ℕ → List ℕ
in_quotes true s = quote ∷ (doubled s ++ (quote ∷ []))
in_quotes false s = s

-- only these would be read as another field
abbrev pub needs_quotes : List ℕ → Bool
needs_quotes s = starts_with quote s || any (eqb semicolon) s

unfoldable pub field_text : List ℕ → List ℕ
field_text s = in_quotes (needs_quotes s) s

-- the first field of a line: its line must not read as a remark
unfoldable pub first_field_text : List ℕ → List ℕ
first_field_text s = in_quotes (is_remark s || needs_quotes s) s
