-- "The price book": what its records hold, and finding the record that counts.
-- `Value`, `Way` and `Rounding` are the code's own types; names are lists of bytes here, and places in the book in the code. Levels are
-- letters here and rules numbers, as on the paper, and both are enums in the code.
use Rattle.std.specs.Prelude.{ℕ, ◌&&◌, List, eqb, ℤ, pos}
use Rattle.std.proofs.Math.Option.{Option, some, none}
use Rattle.rules.specs.Lists.{same, keep, first, gather, if_some}
use Rattle.rules.specs.Letters.{letter}
use Rattle.rules.specs.declared.Level.{Level}
use Rattle.rules.specs.declared.Level.TheVariants.{Base, Surcharge, Discount}
use Rattle.rules.specs.declared.Rule.{Rule}
use Rattle.rules.specs.declared.Rule.TheVariants.{OfBase, OfTotal}
use Rattle.rules.specs.declared.Value.{Value}
use Rattle.rules.specs.declared.Way.TheVariants.{Commercial}
use Rattle.rules.specs.declared.Rounding.{Rounding}

-- ---- the letters of sort and level

abbrev pub sale : ℕ
sale = letter "S"

abbrev pub purchase : ℕ
purchase = letter "P"

abbrev pub base : ℕ
base = letter "B"

abbrev pub surcharge : ℕ
surcharge = letter "X"

abbrev pub discount : ℕ
discount = letter "D"

-- the letter of a level in the code, and the number of a rule
abbrev pub letter_of : Level → ℕ
letter_of Base = base
letter_of Surcharge = surcharge
letter_of Discount = discount

abbrev pub rule_number : Rule → ℕ
rule_number OfBase = 1
rule_number OfTotal = 2

-- ---- the five kinds

-- kind 1
pub record Article : Type 0 where
  pub number : List ℕ
  pub scheme : List ℕ

-- kind 2; an empty condition: unconditioned
pub record Row : Type 0 where
  pub article : List ℕ
  pub condition : List ℕ
  pub sort : ℕ
  pub level : ℕ
  pub rule : ℕ
  pub text : ℕ
  pub value : Value
  pub currency : List ℕ
  pub from : ℕ
  pub to : ℕ
  pub up_to : ℕ
  pub rounding : ℕ

-- kind 4; eight values, in the order of the presence bits, and the units of length, volume and weight
pub record Pack : Type 0 where
  pub article : List ℕ
  pub condition : List ℕ
  pub present : ℕ
  pub values : List ℤ
  pub units : List (List ℕ)

-- kind 5; a character 0 is not given
pub record Scheme : Type 0 where
  pub id : List ℕ
  pub number_separator : List ℕ
  pub value_separator : List ℕ
  pub visibility : ℕ
  pub hidden : ℕ
  pub unselected : ℕ
  pub trim : ℕ

pub data Record : Type 0 where
  ArticleRecord : Article → Record
  PriceRecord : Row → Record
  RoundingRecord : Rounding → Record
  PackagingRecord : Pack → Record
  SchemeRecord : Scheme → Record

-- ---- a record read as one of a kind: what it holds, or nothing where it is of another

abbrev pub as_article : Record → Option Article
as_article (ArticleRecord a) = some a
as_article (PriceRecord r) = none
as_article (RoundingRecord r) = none
as_article (PackagingRecord p) = none
as_article (SchemeRecord s) = none

abbrev pub as_row : Record → Option Row
as_row (ArticleRecord a) = none
as_row (PriceRecord r) = some r
as_row (RoundingRecord r) = none
as_row (PackagingRecord p) = none
as_row (SchemeRecord s) = none

abbrev pub as_rounding : Record → Option Rounding
as_rounding (ArticleRecord a) = none
as_rounding (PriceRecord r) = none
as_rounding (RoundingRecord r) = some r
as_rounding (PackagingRecord p) = none
as_rounding (SchemeRecord s) = none

abbrev pub as_pack : Record → Option Pack
as_pack (ArticleRecord a) = none
as_pack (PriceRecord r) = none
as_pack (RoundingRecord r) = none
as_pack (PackagingRecord p) = some p
as_pack (SchemeRecord s) = none

abbrev pub as_scheme : Record → Option Scheme
as_scheme (ArticleRecord a) = none
as_scheme (PriceRecord r) = none
as_scheme (RoundingRecord r) = none
as_scheme (PackagingRecord p) = none
as_scheme (SchemeRecord s) = some s

-- ---- the records of each kind, in the book's order

abbrev pub articles : List Record → List Article
articles rs = gather as_article rs

abbrev pub rows : List Record → List Row
rows rs = gather as_row rs

abbrev pub roundings : List Record → List Rounding
roundings rs = gather as_rounding rs

abbrev pub packagings : List Record → List Pack
packagings rs = gather as_pack rs

abbrev pub schemes : List Record → List Scheme
schemes rs = gather as_scheme rs

-- the rows of an article and sort, whatever their level and condition
unfoldable pub rows_of : List ℕ → ℕ → List Record → List Row
rows_of article sort book = keep (λ r. same r.article article && eqb r.sort sort) (rows book)

-- ---- of records alike, the first in the book counts

unfoldable pub article_of : List Record → List ℕ → Option Article
article_of book number = first (λ a. same a.number number) (articles book)

unfoldable pub scheme_of : List Record → List ℕ → Option Scheme
scheme_of book id = first (λ s. same s.id id) (schemes book)

unfoldable pub pack_of : List Record → List ℕ → List ℕ → Option Pack
pack_of book article condition = first (λ p. same p.article article && same p.condition condition) (packagings book)

-- "From rows to a total": number 0, which no record has, and any other that none has, round to the nearest cent and add nothing
abbrev pub plain : Rounding
plain = record { number = 0; way = Commercial; step = 1; before = record { 0 = pos 0 }; after = record { 0 = pos 0 } }

unfoldable pub rounding_for : ℕ → List Rounding → Rounding
rounding_for n rs = if_some (first (λ r. eqb r.number n) rs) plain (λ r. r)
