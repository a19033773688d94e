-- What functions over a line of the price file ensure.
use Rattle.std.specs.Prelude.{ℕ, ◌+◌, ◌-◌, ◌≤◌, ◌<◌, ◌≡◌, List, [], ◌∷◌, length, drop, get_or}
use Rattle.std.proofs.Math.Option.{Option, some, none}
use Rattle.rules.specs.Lists.{if_some}
use Rattle.rules.specs.Layout.{whole}
use Rattle.rules.specs.BookLayout.{value_of, in_bounds}
use Rattle.file_rules.specs.Fields.{semicolon, field}
use Rattle.file_rules.specs.PriceLine.{NamedRow, letter_in, price_line}
use Rattle.file_rules.specs.Decimals.{date_in, quantity_in, value_in}
use Rattle.rules.specs.declared.Value.{Value}
use Rattle.layout.specs.Reads.{only}
use Rattle.fields.specs.declared.field.Field.{Field}
use Rattle.figures.specs.declared.Amount.{Amount}
use Rattle.fields.specs.Field.{text_of, TextIs, FieldIs, NextIs}
use Rattle.figures.specs.Figures.{signed_by, letters_of}
use Rattle.price_line.specs.declared.Kinds.{Kinds}
use Rattle.price_line.specs.declared.Priced.{Priced}
use Rattle.price_line.specs.declared.Span.{Span}
use Rattle.price_line.specs.declared.PriceLine.{PriceLine}

-- ---- the fields

abbrev pub zero_field : Field
zero_field = record { from = 0; to = 0; count = 0; next = 0 }

abbrev pub nth : List Field → ℕ → Field
nth fs k = get_or fs k zero_field

pub record FieldsAre (line : List ℕ) (fs : List Field) : Type 0 where
  pub first : FieldIs line 0 (nth fs 0)
  pub each : (k : ℕ) → k + 1 < 13 → NextIs line (nth fs k).next (nth fs (k + 1))

-- the first k of them were read
pub record FieldsTo (line : List ℕ) (fs : List Field) (k : ℕ) : Type 0 where
  pub long : length fs ≡ 13
  pub low : 1 ≤ k
  pub few : k ≤ 13
  pub fits : (nth fs (k - 1)).next ≤ length line
  pub first : FieldIs line 0 (nth fs 0)
  pub each : (j : ℕ) → j + 1 < k → NextIs line (nth fs j).next (nth fs (j + 1))

-- ---- groups of fields: what their texts mean, if each of them means something

abbrev pub all_three : {A B C : Type 0} → Option A → Option B → Option C → Option (A × (B × C))
all_three a b c = if_some a none (λ x. if_some b none (λ y. if_some c none (λ z. some (x, (y, z)))))

unfoldable pub kinds_in : List ℕ → List ℕ → List ℕ → Option (ℕ × (ℕ × ℕ))
kinds_in s l r = all_three (letter_in (83 ∷ 80 ∷ []) s) (letter_in (66 ∷ 88 ∷ 68 ∷ []) l) (letter_in (49 ∷ 50 ∷ []) r)

unfoldable pub span_in : List ℕ → List ℕ → List ℕ → Option (ℕ × (ℕ × ℕ))
span_in a b q = all_three (date_in a) (date_in b) (quantity_in q)

-- a value that is out of bounds is none
unfoldable pub worth_in : List ℕ → List ℕ → Option Value
worth_in v f =
    if_some (value_in v) none (λ h. if_some (letter_in (48 ∷ 49 ∷ []) f) none (λ fixed.
    only (in_bounds (value_of (fixed - 48) h)) (value_of (fixed - 48) h)))

pub record Kinded (line : List ℕ) (s l r : Field) (k : Kinds) : Type 0 where
  pub is : kinds_in (text_of line s) (text_of line l) (text_of line r) ≡ some (k.sort, (k.level, k.rule))

-- the value that an amount and its flag stand for
abbrev pub Worth : ℕ → Amount → Value
Worth flag a = value_of (flag - 48) (signed_by a.minus a.hundredths)

pub record ValueAre (line : List ℕ) (v f : Field) (p : Priced) : Type 0 where
  pub is : worth_in (text_of line v) (text_of line f) ≡ some (Worth p.flag p.amount)

pub record Spanned (line : List ℕ) (a b q : Field) (s : Span) : Type 0 where
  pub is : span_in (text_of line a) (text_of line b) (text_of line q) ≡ some (s.from, (s.to, s.upto))

-- ---- the line

-- the row, of which the text has a name alone
unfoldable pub row_on : List ℕ → PriceLine → NamedRow
row_on line r =
    record {
      name = text_of line r.name;
      row = record {
        article = text_of line r.article;
        condition = text_of line r.condition;
        sort = r.kinds.sort;
        level = r.kinds.level;
        rule = r.kinds.rule - 48;
        text = 0;
        value = Worth r.priced.flag r.priced.amount;
        currency = letters_of r.currency;
        from = r.span.from;
        to = r.span.to;
        up_to = r.span.upto;
        rounding = 0;
      };
    }

-- where the field of the text's name starts: a semicolon stands behind it
pub record NameStarts (line : List ℕ) (r : PriceLine) : Type 0 where
  pub fits : r.start ≤ length line
  pub rest : List ℕ
  pub reads : field (drop r.start line) ≡ some (text_of line r.name, semicolon ∷ rest)

pub record LineIs (line : List ℕ) (r : PriceLine) : Type 0 where
  pub is : whole price_line line ≡ some (row_on line r)
  pub article : TextIs line r.article
  pub condition : TextIs line r.condition
  pub name : TextIs line r.name
  pub starts : NameStarts line r
  pub short : (r.article.count ≤ 40) × (r.condition.count ≤ 20)
