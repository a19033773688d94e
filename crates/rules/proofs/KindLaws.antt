-- Records by what they are read as: each is of one kind, and laws of any kind, so that a proof about one kind need not name the others.
use mathlib.Core.Path.{◌≡◌, refl, sym, ◌∙◌, ap, subst}
use mathlib.Core.List.{List, [], ◌∷◌}
use mathlib.Core.Option.{Option, some, none, some-injective}
use lib.ListN.{length}
use Rattle.rules.specs.Lists.{keep, gather, cons_some, if_some, is_some}
use Rattle.rules.specs.Book.{Record, ArticleRecord, PriceRecord, RoundingRecord, PackagingRecord, SchemeRecord, Article, Row, Pack, Scheme, as_article, as_row, as_rounding, as_pack, as_scheme, articles, rows, roundings, packagings, schemes}
use Rattle.rules.specs.declared.Rounding.{Rounding}
use Rattle.rules.proofs.ListLaws.{All}

-- ---- a kind

-- How the records of a kind are made of what they hold, and read again. Reading undoes making, and making undoes reading.
pub record Kind (X : Type 0) : Type 0 where
  pub make : X → Record
  pub read : Record → Option X
  pub made : (x : X) → read (make x) ≡ some x
  pub again : (r : Record) → if_some (read r) r make ≡ r

-- the records of the kind among these, in their order
abbrev pub list_of : {X : Type 0} → Kind X → List Record → List X
list_of k rs = gather k.read rs

-- ---- the five

-- a record read as any kind and made again is the same, or was not read
pub each_again : (r : Record)
    → (if_some (as_article r) r ArticleRecord ≡ r)
    × (if_some (as_row r) r PriceRecord ≡ r)
    × (if_some (as_rounding r) r RoundingRecord ≡ r)
    × (if_some (as_pack r) r PackagingRecord ≡ r)
    × (if_some (as_scheme r) r SchemeRecord ≡ r)
each_again (ArticleRecord a) = (refl, refl, refl, refl, refl)
each_again (PriceRecord r) = (refl, refl, refl, refl, refl)
each_again (RoundingRecord r) = (refl, refl, refl, refl, refl)
each_again (PackagingRecord p) = (refl, refl, refl, refl, refl)
each_again (SchemeRecord s) = (refl, refl, refl, refl, refl)

abbrev pub article_kind : Kind Article
article_kind = record { make = ArticleRecord; read = as_article; made = λ x. refl; again = λ r. (each_again r).0 }

abbrev pub row_kind : Kind Row
row_kind = record { make = PriceRecord; read = as_row; made = λ x. refl; again = λ r. (each_again r).1 }

abbrev pub rounding_kind : Kind Rounding
rounding_kind = record { make = RoundingRecord; read = as_rounding; made = λ x. refl; again = λ r. (each_again r).2 }

abbrev pub pack_kind : Kind Pack
pack_kind = record { make = PackagingRecord; read = as_pack; made = λ x. refl; again = λ r. (each_again r).3 }

abbrev pub scheme_kind : Kind Scheme
scheme_kind = record { make = SchemeRecord; read = as_scheme; made = λ x. refl; again = λ r. (each_again r).4 }

-- the lists of the rules are these
pub kinds_listed : (rs : List Record)
    → (articles rs ≡ list_of article_kind rs)
    × (rows rs ≡ list_of row_kind rs)
    × (roundings rs ≡ list_of rounding_kind rs)
    × (packagings rs ≡ list_of pack_kind rs)
    × (schemes rs ≡ list_of scheme_kind rs)
kinds_listed rs = (refl, refl, refl, refl, refl)

-- Each record is read as one of exactly one kind.
pub one_kind : (r : Record)
    → length (keep (λ b. b) (is_some (as_article r) ∷ is_some (as_row r) ∷ is_some (as_rounding r) ∷ is_some (as_pack r) ∷ is_some (as_scheme r) ∷ [])) ≡ 1
one_kind (ArticleRecord a) = refl
one_kind (PriceRecord r) = refl
one_kind (RoundingRecord r) = refl
one_kind (PackagingRecord p) = refl
one_kind (SchemeRecord s) = refl

-- ---- laws of any kind

module _ {X : Type 0} (k : Kind X) where
  -- A record of which something is read is the one made of that: `read_only row_kind` says that a record read as a row is a price record of this row.
  pub read_only : (r : Record) (x : X) → k.read r ≡ some x → r ≡ k.make x
  read_only r x e = sym (k.again r) ∙ ap (λ (o : Option X). if_some o r k.make) e

  -- Two records of a kind are the same only where they hold the same.
  pub same_held : (x y : X) → k.make x ≡ k.make y → x ≡ y
  same_held x y e = some-injective x y (sym (k.made x) ∙ (ap k.read e ∙ k.made y))

  -- A record read as one of the kind is none of another kind. That the other's reading gives nothing for this kind's records is `λ x. refl`.
  pub apart : {Y : Type 0} (l : Kind Y) → ((x : X) → l.read (k.make x) ≡ none) → (r : Record) (x : X) → k.read r ≡ some x → l.read r ≡ none
  apart l h r x e = ap l.read (read_only r x e) ∙ h x

  -- What holds of the records of the kind, and of those of which nothing is read, holds of every record: two cases in place of one for each kind.
  pub by_kind : (P : Record → Type 0) → ((x : X) → P (k.make x)) → ((r : Record) → k.read r ≡ none → P r) → (r : Record) → P r
  by_kind P f g r = go (k.read r) refl
    where
      go : (o : Option X) → k.read r ≡ o → P r
      go none e = g r e
      go (some x) e = subst P (sym (read_only r x e)) (f x)

  -- A record in front brings what is read of it, and one of another kind nothing.
  pub list_this : (r : Record) (rs : List Record) (x : X) → k.read r ≡ some x → list_of k (r ∷ rs) ≡ x ∷ list_of k rs
  list_this r rs x e = ap (λ (o : Option X). cons_some o (list_of k rs)) e

  pub list_other : (r : Record) (rs : List Record) → k.read r ≡ none → list_of k (r ∷ rs) ≡ list_of k rs
  list_other r rs e = ap (λ (o : Option X). cons_some o (list_of k rs)) e

  -- What all records of a list have, those of the kind have.
  pub list_all : (P : Record → Type 0) (rs : List Record) → All P rs → All (λ x. P (k.make x)) (list_of k rs)
  list_all P [] hs = tt
  list_all P (r ∷ rs) hs = go (k.read r) refl (list_all P rs hs.1)
    where
      go : (o : Option X) → k.read r ≡ o → All (λ x. P (k.make x)) (list_of k rs) → All (λ x. P (k.make x)) (cons_some o (list_of k rs))
      go none e ks = ks
      go (some x) e ks = (subst P (read_only r x e) hs.0, ks)
