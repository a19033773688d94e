-- The article whose record or row went by last, and its rank on the list.
use Rattle.std.specs.Prelude.{ℕ, ◌≤◌, ◌≡◌, List, length}
use Rattle.std.proofs.Math.Option.{Option, some}
use Rattle.rules.specs.Book.{Record}
use Rattle.layout.specs.Reads.{part}
use Rattle.records.specs.Asks.{Accepted}
use Rattle.wanted.specs.declared.last.Last.{Last}
use Rattle.questions.specs.declared.Name.{Name}
use Rattle.wanted.specs.Table.{FoundOr}
use Rattle.wanted.specs.Entries.{of_article}

-- a part of b
pub record PartOf (b : List ℕ) (from to : ℕ) : Type 0 where
  pub low : from ≤ to
  pub fits : to ≤ length b

-- kind and body of an accepted record stand from `start` to `end`
pub record RecordAt (b : List ℕ) (start end : ℕ) : Type 0 where
  pub low : start ≤ end
  pub fits : end ≤ length b
  pub accepted : Accepted (part b start end)

-- in the book stands a name there, and that is its rank on the list
pub record LastIs (b bs : List ℕ) (names : List Name) (n : ℕ) (r : Last) : Type 0 where
  pub low : r.from ≤ r.to
  pub fits : r.to ≤ length b
  pub found : FoundOr bs names n (part b r.from r.to) r.rank

-- and it is the name from `from` to `to`
pub record LastNamed (b bs : List ℕ) (names : List Name) (n from to : ℕ) (r : Last) : Type 0 where
  pub is : LastIs b bs names n r
  pub name : part b r.from r.to ≡ part b from to

-- and if the record that went by is of an article, it is that one's name
pub record LastAfter (b bs : List ℕ) (names : List Name) (n : ℕ) (o : Option Record) (r : Last) : Type 0 where
  pub is : LastIs b bs names n r
  pub own : (x : List ℕ) → of_article o ≡ some x → part b r.from r.to ≡ x
