-- What a lookup by a name ensures, and where it stands.
use Rattle.std.specs.Prelude.{Option as Maybe, Some, None, IfSome, ℕ, ◌+◌, ◌≤◌, Bool, ◌≡◌, List, length}
use Rattle.std.proofs.Math.Option.{Option, some, none}
use Rattle.rules.specs.Lists.{first, if_some}
use Rattle.rules.specs.Layout.{whole}
use Rattle.rules.specs.Book.{Record, Article, Scheme, as_article, as_scheme}
use Rattle.rules.specs.BookLayout.{kinded}
use Rattle.rules.specs.declared.Part.{Part}
use Rattle.layout.specs.Records.{records_of, records_left, Between}
use Rattle.records.specs.Asks.{OfKind}
use Rattle.records.specs.Ensures.{bytes_in}
use Rattle.records.specs.Tests.{starts_with}

abbrev pub is_named : ℕ → List ℕ → Record → Bool
is_named kind name r = starts_with kind name (some r)

-- a record of the kind is that part of the book
pub record Stands (b : List ℕ) (kind : ℕ) (p : Part) : Type 0 where
  pub fits : p.at + p.size ≤ length b
  pub kind_is : OfKind kind (bytes_in b p)

-- the record that is that part of the book
abbrev pub record_in : List ℕ → Maybe Part → Option Record
record_in b None = none
record_in b (Some p) = whole kinded (bytes_in b p)

-- the first of the kind with the name is the part r of the book, or the book has none
pub record FirstNamed (b : List ℕ) (kind : ℕ) (name : List ℕ) (r : Maybe Part) : Type 0 where
  pub is : first (is_named kind name) (records_of b) ≡ record_in b r
  pub stands : IfSome r (Stands b kind)

-- none of the records passed is one
pub record Seeking (b : List ℕ) (kind : ℕ) (name : List ℕ) (at : ℕ) : Type 0 where
  pub between : Between b at
  pub rest : first (is_named kind name) (records_left b at) ≡ first (is_named kind name) (records_of b)

-- the article, or the scheme, that it is
abbrev pub article_held : List ℕ → Maybe Part → Option Article
article_held b r = if_some (record_in b r) none as_article

abbrev pub scheme_held : List ℕ → Maybe Part → Option Scheme
scheme_held b r = if_some (record_in b r) none as_scheme
