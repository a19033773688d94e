-- The tests of a record by its kind and its first name, by what the record is read as; and a record of a book, met on a walk.
use Prim.Native.Nat.{ℕ, ◌+◌}
use mathlib.Core.Path.{◌≡◌, refl, sym, ◌∙◌, ap}
use mathlib.Core.Bool.{Bool, true, false, ◌||◌}
use mathlib.Core.List.{List}
use mathlib.Core.Option.{Option, some, none}
use Rattle.rules.specs.Lists.{same, if_some, is_some, cons_some, first, pick}
use Rattle.rules.specs.Book.{Record, ArticleRecord, PriceRecord, RoundingRecord, PackagingRecord, SchemeRecord, Article, as_article, as_row, as_pack, as_scheme, articles, article_of}
use Rattle.layout.specs.Reads.{part}
use Rattle.layout.specs.Records.{StopIs}
use Rattle.records.specs.Asks.{Accepted}
use Rattle.records.specs.Tests as Tests

-- a record that ends where the walk stops is accepted
pub accepted : {b : List ℕ} {at end : ℕ} → StopIs b at end → Accepted (part b (at + 2) end)
accepted s = record { ok = s.ok }

-- the article of the number, a price and a packaging of the article, the scheme of the id
starts_read : (name : List ℕ) (r : Record)
    → (Tests.starts_with 1 name (some r) ≡ if_some (as_article r) false λ a. same a.number name)
    × (Tests.starts_with 2 name (some r) ≡ if_some (as_row r) false λ p. same p.article name)
    × (Tests.starts_with 4 name (some r) ≡ if_some (as_pack r) false λ p. same p.article name)
    × (Tests.starts_with 5 name (some r) ≡ if_some (as_scheme r) false λ s. same s.id name)
unfolding Tests.starts_with
starts_read name (ArticleRecord a) = (refl, refl, refl, refl)
starts_read name (PriceRecord r) = (refl, refl, refl, refl)
starts_read name (RoundingRecord r) = (refl, refl, refl, refl)
starts_read name (PackagingRecord p) = (refl, refl, refl, refl)
starts_read name (SchemeRecord s) = (refl, refl, refl, refl)

pub article_read : (number : List ℕ) (r : Record) → Tests.article_of number (some r) ≡ if_some (as_article r) false λ a. same a.number number
article_read number r = (starts_read number r).0

pub packaging_read : (article : List ℕ) (r : Record) → Tests.starts_with 4 article (some r) ≡ if_some (as_pack r) false λ p. same p.article article
packaging_read article r = (starts_read article r).2

pub row_read : (article : List ℕ) (r : Record) → Tests.row_of article (some r) ≡ if_some (as_row r) false λ p. same p.article article
row_read article r = (starts_read article r).1

pub scheme_read : (id : List ℕ) (r : Record) → Tests.starts_with 5 id (some r) ≡ if_some (as_scheme r) false λ s. same s.id id
scheme_read id r = (starts_read id r).3

-- whether the article is there, when one more record stands in front
pub article_turn : (o : Option Record) (rs : List Record) (number : List ℕ)
    → is_some (article_of (cons_some o rs) number) ≡ (Tests.article_of number o || is_some (article_of rs number))
unfolding article_of Tests.starts_with
article_turn none rs number = refl
article_turn (some r) rs number = go (as_article r) ∙ ap (λ (b : Bool). b || is_some (article_of rs number)) (sym (article_read number r))
  where
    named : Article → Bool
    named a = same a.number number

    one : (b : Bool) (a : Article) → is_some (pick b a (first named (articles rs))) ≡ (b || is_some (first named (articles rs)))
    one true a = refl
    one false a = refl

    go : (o : Option Article) → is_some (first named (cons_some o (articles rs))) ≡ (if_some o false named || is_some (first named (articles rs)))
    go none = refl
    go (some a) = one (named a) a
