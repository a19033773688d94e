-- Names as fields of a price file.
use Rattle.std.specs.Prelude.{ℕ, Bool, true, false, ◌&&◌, ◌||◌, List, [], eqb}
use Rattle.file_rules.specs.Fields.{quote, twice_if, is_remark, needs_quotes, in_quotes, field_text, first_field_text}

-- whether the name is written in quotes: as the first field of a line, or as a later one
abbrev pub quotes_in : Bool → List ℕ → Bool
quotes_in first s = (first && is_remark s) || needs_quotes s

-- a byte between quotes: a quote twice
unfoldable pub doubled_byte : ℕ → List ℕ
doubled_byte b = twice_if (eqb b quote) b []

unfoldable pub quoted : List ℕ → List ℕ
quoted s = in_quotes true s

-- what is written
unfoldable pub text_in : Bool → List ℕ → List ℕ
text_in true s = first_field_text s
text_in false s = field_text s
