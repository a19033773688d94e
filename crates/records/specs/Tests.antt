-- Which record it is: tests of a record by its kind and what it is found by.
use Rattle.std.specs.Prelude.{ℕ, List, [], Bool, false, ◌&&◌, eqb}
use Rattle.std.proofs.Math.Option.{Option, some, none}
use Rattle.rules.specs.Lists.{same, if_some, is_some}
use Rattle.rules.specs.Book.{Record, ArticleRecord, PriceRecord, RoundingRecord, PackagingRecord, SchemeRecord, as_row, as_rounding}
use Rattle.kinds.specs.Fields.{kind_of}

-- the name that it starts with; a rounding has none
abbrev pub first_name : Record → List ℕ
first_name (ArticleRecord a) = a.number
first_name (PriceRecord r) = r.article
first_name (RoundingRecord r) = []
first_name (PackagingRecord p) = p.article
first_name (SchemeRecord s) = s.id

unfoldable pub starts_with : ℕ → List ℕ → Option Record → Bool
starts_with kind name none = false
starts_with kind name (some r) = eqb (kind_of r) kind && same (first_name r) name

-- the article of the number
abbrev pub article_of : List ℕ → Option Record → Bool
article_of number o = starts_with 1 number o

-- a price of the article
abbrev pub row_of : List ℕ → Option Record → Bool
row_of number o = starts_with 2 number o

-- a price of the article and sort
unfoldable pub is_row : List ℕ → ℕ → Option Record → Bool
is_row number sort none = false
is_row number sort (some r) = if_some (as_row r) false λ p. same p.article number && eqb p.sort sort

-- a rounding, of whatever number
unfoldable pub is_rounding : Option Record → Bool
is_rounding none = false
is_rounding (some r) = is_some (as_rounding r)

-- the number of a rounding; any other record has 0
unfoldable pub rounding_number : Option Record → ℕ
rounding_number none = 0
rounding_number (some r) = if_some (as_rounding r) 0 λ x. x.number
