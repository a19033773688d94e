-- The fields of each kind of record, by where they stand in its bytes.
use Rattle.std.specs.Prelude.{ℕ, ◌+◌, List, [], ◌∷◌, ◌++◌, map, ℤ, take, drop, get_or}
use Rattle.rules.specs.Bytes.{big, signed_of}
use Rattle.rules.specs.Book.{Record, ArticleRecord, PriceRecord, RoundingRecord, PackagingRecord, SchemeRecord, Article, Row, Pack, Scheme}
use Rattle.rules.specs.BookLayout.{value_of, way_of}
use Rattle.rules.specs.declared.Rounding.{Rounding}
use Rattle.layout.specs.Reads.{part, name_stop, positions_at}

-- the kind byte of a record
abbrev pub kind_of : Record → ℕ
kind_of (ArticleRecord a) = 1
kind_of (PriceRecord r) = 2
kind_of (RoundingRecord r) = 3
kind_of (PackagingRecord p) = 4
kind_of (SchemeRecord s) = 5

-- ---- numbers at a position

abbrev pub number_at : ℕ → List ℕ → ℕ → ℕ
number_at k s at = big (take k (drop at s))

abbrev pub signed_at : List ℕ → ℕ → ℤ
signed_at s at = signed_of 4 (number_at 4 s at)

-- n signed numbers, from k bytes behind p on
abbrev pub values_at : List ℕ → ℕ → ℕ → ℕ → List ℤ
values_at s p k n = map (signed_at s) (positions_at p 4 k n)

-- where the second of two names ends, and the third of three
abbrev pub second_stop : List ℕ → ℕ → ℕ
second_stop s at = name_stop s (name_stop s at)

abbrev pub third_stop : List ℕ → ℕ → ℕ
third_stop s at = name_stop s (second_stop s at)

-- ---- the kinds: the body starts at `at`, its first name ends at a, its second at b, and p is where its last one ends

unfoldable pub article_at : List ℕ → ℕ → ℕ → ℕ → Article
article_at s at a p = record { number = part s (at + 1) a; scheme = part s (a + 1) p }

unfoldable pub row_at : List ℕ → ℕ → ℕ → ℕ → Row
row_at s at a p = record {
  article = part s (at + 1) a;
  condition = part s (a + 1) p;
  sort = get_or s p 0;
  level = get_or s (p + 1) 0;
  rule = get_or s (p + 2) 0;
  text = number_at 4 s (p + 3);
  value = value_of (get_or s (p + 7) 0) (signed_at s (p + 8));
  currency = take 3 (drop (p + 12) s);
  from = number_at 4 s (p + 15);
  to = number_at 4 s (p + 19);
  up_to = number_at 4 s (p + 23);
  rounding = number_at 2 s (p + 27);
}

unfoldable pub rounding_at : List ℕ → ℕ → Rounding
rounding_at s at = record {
  number = number_at 2 s at;
  way = way_of (get_or s (at + 2) 0);
  step = number_at 4 s (at + 3);
  before = record { 0 = signed_at s (at + 7) };
  after = record { 0 = signed_at s (at + 11) };
}

unfoldable pub pack_at : List ℕ → ℕ → ℕ → ℕ → Pack
pack_at s at a p = record {
  article = part s (at + 1) a;
  condition = part s (a + 1) p;
  present = get_or s p 0;
  values = values_at s p 1 6 ++ values_at s p 25 2;
  units = take 3 (drop (p + 33) s) ∷ take 3 (drop (p + 36) s) ∷ take 3 (drop (p + 39) s) ∷ [];
}

unfoldable pub scheme_at : List ℕ → ℕ → ℕ → ℕ → ℕ → Scheme
scheme_at s at a b p = record {
  id = part s (at + 1) a;
  number_separator = part s (a + 1) b;
  value_separator = part s (b + 1) p;
  visibility = get_or s p 0;
  hidden = get_or s (p + 1) 0;
  unselected = get_or s (p + 2) 0;
  trim = get_or s (p + 3) 0;
}
