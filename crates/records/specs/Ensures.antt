-- What the functions of this crate ensure: what the code read is what the definitions read, and the bounds that a book's numbers have.
use Rattle.std.specs.Prelude.{Option as Maybe, IfSome, unwrap_or, ℕ, ◌+◌, ◌≤◌, ◌≡◌, List, [], ◌∷◌, ◌++◌, true, eqb, length, take, drop, get_or, ℤ, pos, nat_abs}
use Rattle.std.proofs.Math.Option.{Option, some}
use Rattle.rules.specs.Lists.{any}
use Rattle.rules.specs.Layout.{whole}
use Rattle.rules.specs.Book.{Record, ArticleRecord, PriceRecord, RoundingRecord, PackagingRecord, SchemeRecord, Article, Row, Pack, Scheme, base, surcharge, discount, letter_of, rule_number}
use Rattle.rules.specs.BookLayout.{kinded, value_of, in_bounds, way_of, zero_unless_present}
use Rattle.rules.specs.Amounts.{SoundRounding}
use Rattle.rules.specs.declared.Part.{Part}
use Rattle.rules.specs.declared.Level.{Level}
use Rattle.rules.specs.declared.Rule.{Rule}
use Rattle.rules.specs.declared.Value.{Value}
use Rattle.rules.specs.declared.Way.{Way}
use Rattle.rules.specs.declared.PriceRow.{PriceRow}
use Rattle.rules.specs.declared.Rounding.{Rounding}
use Rattle.rules.proofs.ListLaws.{All}
use Rattle.kinds.specs.Fields.{signed_at, values_at}
use Rattle.records.specs.Tests.{rounding_number}
use Rattle.records.specs.declared.articles.ArticleParts.{ArticleParts}
use Rattle.records.specs.declared.packagings.Packing.{Packing}
use Rattle.records.specs.declared.schemes.SchemeParts.{SchemeParts}

-- the bytes of a part of t
abbrev pub bytes_in : List ℕ → Part → List ℕ
bytes_in t p = take p.size (drop p.at t)

-- ---- the bounds of a record's numbers

pub record RowBounds (r : Row) : Type 0 where
  pub level : any (eqb r.level) (base ∷ surcharge ∷ discount ∷ []) ≡ true
  pub rule : any (eqb r.rule) (1 ∷ 2 ∷ []) ≡ true
  pub value : in_bounds r.value ≡ true

pub record RoundingBounds (r : Rounding) : Type 0 where
  pub number_low : 1 ≤ r.number
  pub sound : SoundRounding r

-- its id is not empty, and no separator is longer than 8
pub record SchemeBounds (s : Scheme) : Type 0 where
  pub named : 1 ≤ length s.id
  pub number_short : length s.number_separator ≤ 8
  pub value_short : length s.value_separator ≤ 8

-- past the last value stands 0, so that the bound holds of every place
abbrev pub ValuesIn : List ℤ → Type 0
ValuesIn zs = (i : ℕ) → nat_abs (get_or zs i (pos 0)) ≤ 10_000_000

-- a packaging's values are in bounds, and 0 where they are not present; its units have three letters each
pub record PackBounds (p : Pack) : Type 0 where
  pub values_in : ValuesIn p.values
  pub absent : zero_unless_present p.present p.values ≡ true
  pub letters : All (λ u. length u ≡ 3) p.units

abbrev pub Bounded : Record → Type 0
Bounded (ArticleRecord a) = Unit {0}
Bounded (PriceRecord r) = RowBounds r
Bounded (RoundingRecord r) = RoundingBounds r
Bounded (PackagingRecord p) = PackBounds p
Bounded (SchemeRecord s) = SchemeBounds s

-- ---- an article

unfoldable pub article_in : List ℕ → ArticleParts → Article
article_in t r = record { number = bytes_in t r.number; scheme = bytes_in t r.scheme }

pub record ArticleIs (t : List ℕ) (r : ArticleParts) : Type 0 where
  pub is : whole kinded t ≡ some (ArticleRecord (article_in t r))
  pub number_in : r.number.at + r.number.size ≤ length t
  pub scheme_in_lem : r.scheme.at + r.scheme.size ≤ length t

-- ---- a price

-- the definition's row that the code's row stands for, in its record t
unfoldable pub row_in : List ℕ → PriceRow → Row
row_in t r = record {
  article = bytes_in t r.article;
  condition = bytes_in t r.condition;
  sort = r.sort;
  level = letter_of r.level;
  rule = rule_number r.rule;
  text = r.text;
  value = r.value;
  currency = r.currency.0 ∷ r.currency.1 ∷ r.currency.2 ∷ [];
  from = r.from;
  to = r.to;
  up_to = r.upto;
  rounding = r.rounding;
}

-- `r` is the level of this letter, and the rule of this number
pub record LevelIs (letter : ℕ) (r : Level) : Type 0 where
  pub is : letter ≡ letter_of r

pub record RuleIs (number : ℕ) (r : Rule) : Type 0 where
  pub is : number ≡ rule_number r

-- the value behind the names that end at p
pub record ValueIs (t : List ℕ) (p : ℕ) (r : Value) : Type 0 where
  pub is : r ≡ value_of (get_or t (p + 7) 0) (signed_at t (p + 8))

pub record RowIs (t : List ℕ) (r : PriceRow) : Type 0 where
  pub is : whole kinded t ≡ some (PriceRecord (row_in t r))
  pub article_in_lem : r.article.at + r.article.size ≤ length t
  pub condition_in : r.condition.at + r.condition.size ≤ length t
  pub value_in : in_bounds r.value ≡ true

-- ---- a rounding

pub record WayIs (b : ℕ) (r : Way) : Type 0 where
  pub is : r ≡ way_of b

pub record RoundingIs (t : List ℕ) (r : Rounding) : Type 0 where
  pub is : whole kinded t ≡ some (RoundingRecord r)
  pub bounds : RoundingBounds r

-- `r` is the number of the record o where it is a rounding
pub record NumberIs (o : Option Record) (r : Maybe ℕ) : Type 0 where
  pub is : unwrap_or r 0 ≡ rounding_number o
  pub low : IfSome r (λ n. 1 ≤ n)

-- ---- packaging

-- the values and the units behind the presence byte at p
pub record ValuesAre (t : List ℕ) (p : ℕ) (r : List ℤ) : Type 0 where
  pub is : r ≡ values_at t p 1 6 ++ values_at t p 25 2

abbrev pub units_in : List ℕ → List (List ℕ)
units_in u = take 3 u ∷ take 3 (drop 3 u) ∷ take 3 (drop 6 u) ∷ []

pub record UnitsAre (t : List ℕ) (p : ℕ) (r : List ℕ) : Type 0 where
  pub is : units_in r ≡ take 3 (drop (p + 33) t) ∷ take 3 (drop (p + 36) t) ∷ take 3 (drop (p + 39) t) ∷ []

unfoldable pub pack_in : List ℕ → Packing → Pack
pack_in t r = record {
  article = bytes_in t r.article;
  condition = bytes_in t r.condition;
  present = r.present;
  values = r.values;
  units = units_in r.units;
}

pub record PackIs (t : List ℕ) (r : Packing) : Type 0 where
  pub is : whole kinded t ≡ some (PackagingRecord (pack_in t r))
  pub article_in_lem : r.article.at + r.article.size ≤ length t
  pub condition_in : r.condition.at + r.condition.size ≤ length t
  pub values_in : ValuesIn r.values

-- ---- a scheme

unfoldable pub scheme_in : List ℕ → SchemeParts → Scheme
scheme_in t r = record {
  id = bytes_in t r.id;
  number_separator = bytes_in t r.numbersep;
  value_separator = bytes_in t r.valuesep;
  visibility = r.visibility;
  hidden = r.hidden;
  unselected = r.unselected;
  trim = r.trim;
}

pub record SchemeIs (t : List ℕ) (r : SchemeParts) : Type 0 where
  pub is : whole kinded t ≡ some (SchemeRecord (scheme_in t r))
  pub id_in : r.id.at + r.id.size ≤ length t
  pub numbersep_in : r.numbersep.at + r.numbersep.size ≤ length t
  pub valuesep_in : r.valuesep.at + r.valuesep.size ≤ length t
  pub bounds : SchemeBounds (scheme_in t r)
