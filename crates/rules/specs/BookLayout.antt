-- "The price book": which bytes are a book, kind by kind.
use Rattle.std.specs.Prelude.{ℕ, zero, suc, ◌/◌, ◌%◌, ◌^◌, Bool, ◌&&◌, ◌||◌, not, List, [], ◌∷◌, ◌++◌, eqb, leb, length, get_or, ℤ, pos}
use Rattle.std.proofs.Math.Option.{Option, none}
use Rattle.rules.specs.Lists.{same, between, any, all}
use Rattle.rules.specs.Letters.{text, letter}
use Rattle.rules.specs.Layout.{Layout, ◌>>=◌, give, ◌such◌, must, bytes, byte, times, whole, framed, repeated}
use Rattle.rules.specs.Bytes.{number, signed, name, name_byte, one_of, head, capitals, either_side}
use Rattle.rules.specs.Book.{Record, ArticleRecord, PriceRecord, RoundingRecord, PackagingRecord, SchemeRecord, sale, purchase, base, surcharge, discount}
use Rattle.rules.specs.declared.Value.{Value}
use Rattle.rules.specs.declared.Value.TheVariants.{Fixed, Percent}
use Rattle.rules.specs.declared.Way.{Way}
use Rattle.rules.specs.declared.Way.TheVariants.{Down, Up, Commercial}

-- ---- kind 1: an article's number, and the id of its scheme or nothing

abbrev pub article_body : Layout Record
article_body = do
  number ← name 1 40
  scheme ← name 0 20
  give (ArticleRecord (record { number = number; scheme = scheme }))

-- ---- kind 2: a price row

-- the fixed flag says which sort of number the value is
abbrev pub value_of : ℕ → ℤ → Value
value_of zero v = Percent (record { 0 = v })
value_of (suc n) v = Fixed (record { 0 = v })

-- each sort has its bound
abbrev pub in_bounds : Value → Bool
in_bounds (Fixed c) = either_side 100_000_000 c.0
in_bounds (Percent h) = either_side 100_000 h.0

-- any numbers are dates here; step 2 of the choice drops rows whose dates are no days
abbrev pub price_body : Layout Record
price_body = do
  article ← name 1 40
  condition ← name 0 20
  sort ← one_of (sale ∷ purchase ∷ [])
  level ← one_of (base ∷ surcharge ∷ discount ∷ [])
  rule ← one_of (1 ∷ 2 ∷ [])
  text_number ← number 4
  fixed ← one_of (0 ∷ 1 ∷ [])
  v ← signed 4
  let value = value_of fixed v
  _ ← must (in_bounds value)
  currency ← bytes 3 such capitals
  from ← number 4
  to ← number 4
  up_to ← number 4
  rounding ← number 2
  give
      (PriceRecord
      (record {
        article = article;
        condition = condition;
        sort = sort;
        level = level;
        rule = rule;
        text = text_number;
        value = value;
        currency = currency;
        from = from;
        to = to;
        up_to = up_to;
        rounding = rounding;
      }))

-- ---- kind 3: a rounding

abbrev pub way_of : ℕ → Way
way_of zero = Down
way_of (suc zero) = Up
way_of (suc (suc n)) = Commercial

abbrev pub rounding_body : Layout Record
rounding_body = do
  n ← number 2 such leb 1
  way ← one_of (0 ∷ 1 ∷ 2 ∷ [])
  step ← number 4 such between 1 1_000_000
  before ← signed 4 such either_side 1_000_000
  after ← signed 4 such either_side 1_000_000
  give (RoundingRecord (record {
    number = n;
    way = way_of way;
    step = step;
    before = record { 0 = before };
    after = record { 0 = after };
  }))

-- ---- kind 4: packaging

-- bit i of the presence byte
abbrev pub has : ℕ → ℕ → Bool
has i present = eqb ((present / 2 ^ i) % 2) 1

abbrev pub eight : List ℕ
eight = 0 ∷ 1 ∷ 2 ∷ 3 ∷ 4 ∷ 5 ∷ 6 ∷ 7 ∷ []

abbrev pub zero_unless_present : ℕ → List ℤ → Bool
zero_unless_present present values = all (λ i. has i present || either_side 0 (get_or values i (pos 0))) eight

abbrev pub length_units : List (List ℕ)
length_units = text "CMT" ∷ text "FOT" ∷ text "INH" ∷ text "MMT" ∷ text "MTR" ∷ []

abbrev pub volume_units : List (List ℕ)
volume_units = text "INQ" ∷ text "LTR" ∷ text "MTQ" ∷ []

abbrev pub weight_units : List (List ℕ)
weight_units = text "KGM" ∷ text "LBR" ∷ text "MGM" ∷ []

abbrev pub no_unit : List ℕ
no_unit = 0 ∷ 0 ∷ 0 ∷ []

-- a unit may be left out only where no value needs it
abbrev pub unit_for : Bool → List (List ℕ) → Layout (List ℕ)
unit_for needed units = bytes 3 such λ u. any (same u) units || (same u no_unit && not needed)

-- the article whose packaging any article may use, under a condition
abbrev pub star : List ℕ
star = text "*"

abbrev pub packaging_body : Layout Record
packaging_body = do
  article ← name 1 40
  condition ← name 0 20
  present ← byte
  physical ← times 6 (signed 4 such either_side 10_000_000)
  counts ← times 2 (signed 4 such either_side 10_000)
  let values = physical ++ counts
  _ ← must (zero_unless_present present values)
  length_unit ← unit_for (has 0 present || (has 1 present || has 2 present)) length_units
  volume_unit ← unit_for (has 3 present) volume_units
  weight_unit ← unit_for (has 4 present || has 5 present) weight_units
  _ ← must (not (same article star && eqb (length condition) 0))
  give (PackagingRecord (record {
    article = article;
    condition = condition;
    present = present;
    values = values;
    units = length_unit ∷ volume_unit ∷ weight_unit ∷ [];
  }))

-- ---- kind 5: a scheme

abbrev pub given : ℕ → ℕ → ℕ
given default zero = default
given default (suc c) = suc c

abbrev pub hidden_byte : ℕ → ℕ
hidden_byte c = given (letter "-") c

abbrev pub unselected_byte : ℕ → ℕ
unselected_byte c = given (letter "X") c

-- trimmed values must stay apart: the separator between them is neither empty nor the one character of a run
abbrev pub keeps_apart : List ℕ → ℕ → ℕ → Bool
keeps_apart separator hidden unselected = not (any (same separator) ([] ∷ (hidden_byte hidden ∷ []) ∷ (unselected_byte unselected ∷ []) ∷ []))

abbrev pub scheme_body : Layout Record
scheme_body = do
  id ← name 1 20
  number_separator ← name 0 8
  value_separator ← name 0 8
  visibility ← one_of (0 ∷ 1 ∷ [])
  hidden ← byte such λ c. eqb c 0 || name_byte c
  unselected ← byte such λ c. eqb c 0 || name_byte c
  trim ← one_of (0 ∷ 1 ∷ [])
  _ ← must (eqb trim 0 || keeps_apart value_separator hidden unselected)
  give
      (SchemeRecord
      (record {
        id = id;
        number_separator = number_separator;
        value_separator = value_separator;
        visibility = visibility;
        hidden = hidden;
        unselected = unselected;
        trim = trim;
      }))

-- ---- a record, and a book

abbrev pub broken : Layout Record
broken s = none

abbrev pub body : ℕ → Layout Record
body kind = get_or (broken ∷ article_body ∷ price_body ∷ rounding_body ∷ packaging_body ∷ scheme_body ∷ []) kind broken

abbrev pub kinded : Layout Record
kinded = do
  kind ← byte
  body kind

-- a length, and in that many bytes a kind and its body, to the last of them
abbrev pub one_record : Layout Record
one_record = do
  n ← number 2
  framed n kinded

abbrev pub most_bytes : ℕ
most_bytes = 4_194_304

abbrev pub book_layout : ℕ → Layout (List Record)
book_layout lent = do
  _ ← must (leb lent most_bytes)
  _ ← head lent
  repeated one_record

-- the records of a book, or nothing where the bytes are none
unfoldable pub records : List ℕ → Option (List Record)
records s = whole (book_layout (length s)) s
