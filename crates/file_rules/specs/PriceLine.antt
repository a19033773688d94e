-- The price file (document 003, 2.16): the thirteen fields of a line, read to a row and written from one.
use Rattle.std.specs.Prelude.{ℕ, ◌-◌, Bool, true, false, ◌&&◌, ◌||◌, List, [], ◌∷◌, eqb, length}
use Rattle.std.proofs.Math.Option.{Option, some, none}
use Rattle.rules.specs.Lists.{between, all, any, join_with}
use Rattle.rules.specs.Letters.{text, letter}
use Rattle.rules.specs.Layout.{Layout, ◌>>=◌, give, ◌such◌, must, back, whole}
use Rattle.rules.specs.Bytes.{name_byte, capitals}
use Rattle.rules.specs.Book.{Row, sale, purchase, base, surcharge, discount}
use Rattle.rules.specs.BookLayout.{value_of, in_bounds}
use Rattle.rules.specs.Program.{decimal}
use Rattle.rules.specs.RowBytes.{flag_of, hundredths_of}
use Rattle.file_rules.specs.Fields.{field, next_field, is_blank, is_remark, field_text, first_field_text}
use Rattle.file_rules.specs.Decimals.{only, quantity_in, date_in, value_in, date_text, text_text, value_text}

-- ---- read

-- a row, whose text has a name and as yet no number
pub record NamedRow : Type 0 where
  pub name : List ℕ
  pub row : Row

-- what the field's text stands for
infixl 25 ◌meaning◌
abbrev pub ◌meaning◌ : {A B : Type 0} → Layout A → (A → Option B) → Layout B
◌meaning◌ m f = m >>= λ a. back (f a)

-- lo to hi printable bytes
abbrev pub is_name : ℕ → ℕ → List ℕ → Bool
is_name lo hi s = between lo hi (length s) && all name_byte s

-- one letter, of a few
abbrev pub letter_in : List ℕ → List ℕ → Option ℕ
letter_in few [] = none
letter_in few (b ∷ []) = only (any (eqb b) few) b
letter_in few (b ∷ (c ∷ s)) = none

abbrev pub is_currency : List ℕ → Bool
is_currency s = eqb (length s) 3 && capitals s

abbrev pub is_empty : List ℕ → Bool
is_empty s = eqb (length s) 0

-- any number of printable bytes name a text; a rounding cannot be named
abbrev pub price_line : Layout NamedRow
price_line = do
  article ← field such is_name 1 40
  condition ← next_field such is_name 0 20
  sort ← next_field meaning letter_in (sale ∷ purchase ∷ [])
  level ← next_field meaning letter_in (base ∷ surcharge ∷ discount ∷ [])
  rule ← next_field meaning letter_in (letter "1" ∷ letter "2" ∷ [])
  name ← next_field such all name_byte
  hundredths ← next_field meaning value_in
  fixed ← next_field meaning letter_in (letter "0" ∷ letter "1" ∷ [])
  let value = value_of (fixed - letter "0") hundredths
  _ ← must (in_bounds value)
  currency ← next_field such is_currency
  from ← next_field meaning date_in
  to ← next_field meaning date_in
  up_to ← next_field meaning quantity_in
  _ ← next_field such is_empty
  give
      (record {
        name = name;
        row = record {
          article = article;
          condition = condition;
          sort = sort;
          level = level;
          rule = rule - letter "0";
          text = 0;
          value = value;
          currency = currency;
          from = from;
          to = to;
          up_to = up_to;
          rounding = 0;
        };
      })

abbrev pub alone : Option NamedRow → Option (List NamedRow)
alone none = none
alone (some l) = some (l ∷ [])

abbrev pub brought_by : Bool → List ℕ → Option (List NamedRow)
brought_by true s = some []
brought_by false s = alone (whole price_line s)

-- a blank line and a remark bring nothing, any other line a row; nothing is given where it is bad
unfoldable pub brought : List ℕ → Option (List NamedRow)
brought s = brought_by (is_blank s || is_remark s) s

-- ---- written

abbrev pub field_texts : Row → List (List ℕ)
field_texts r =
    first_field_text r.article
    ∷ field_text r.condition
    ∷ (r.sort ∷ [])
    ∷ (r.level ∷ [])
    ∷ decimal r.rule
    ∷ text_text r.text
    ∷ value_text (hundredths_of r.value)
    ∷ decimal (flag_of r.value)
    ∷ r.currency
    ∷ date_text r.from
    ∷ date_text r.to
    ∷ decimal r.up_to
    ∷ []
    ∷ []

unfoldable pub line_text : Row → List ℕ
line_text r = join_with (text ";") (field_texts r)
