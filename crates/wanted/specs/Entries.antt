-- What is seen of the articles on the list, record by record, and what is told of each in the end.
use Rattle.std.specs.Prelude.{ℕ, ◌<◌, ◌≡◌, Bool, true, false, ◌||◌, not, cond, List, eqb, length, get_or, set, MatchOption}
use Rattle.std.specs.Prelude as Std
use Rattle.std.proofs.Math.Option.{Option, some, none, map}
use Rattle.rules.specs.Lists.{is_some, if_some}
use Rattle.rules.specs.Book.{Record, Row, as_article, as_row, sale}
use Rattle.questions.specs.declared.Name.{Name}
use Rattle.questions.specs.Questions.{no_name, name_at}
use Rattle.survey.specs.declared.Found.{Found}
use Rattle.survey.specs.declared.Sighted.{Sighted}
use Rattle.survey.specs.declared.window.Noted.{Noted}
use Rattle.survey.specs.declared.window.Span.{Span}
use Rattle.survey.specs.Window.{SpanAfter}
use Rattle.survey.specs.Survey.{found_in, FoundIs}
use Rattle.wanted.specs.declared.Sights.{Sights}
use Rattle.wanted.specs.declared.entries.Entry.{Entry}
use Rattle.wanted.specs.Table.{FoundAt}

-- ---- a record that goes by

-- the article that it is of, if it is an article or a row
unfoldable pub of_article : Option Record → Option (List ℕ)
of_article none = none
of_article (some r) = if_some (as_article r) (map (λ (p : Row). p.article) (as_row r)) λ a. some a.number

unfoldable pub is_article : Option Record → Bool
is_article none = false
is_article (some r) = is_some (as_article r)

-- whether it is a row, and for sale, or not for sale
unfoldable pub is_row : Bool → Option Record → Bool
is_row sold none = false
is_row sold (some r) = if_some (as_row r) false λ p. cond sold (eqb p.sort sale) (not (eqb p.sort sale))

-- `r` is what is kept of an article once a record of it has gone by
pub record EntryAfter (e : Entry) (o : Option Record) (at end : ℕ) (r : Entry) : Type 0 where
  pub found : r.found ≡ (e.found || is_article o)
  pub sale : SpanAfter e.sale (is_row true o) at end r.sale
  pub purchase : SpanAfter e.purchase (is_row false o) at end r.purchase

-- an entry past the end of them all
abbrev pub no_entry : Entry
no_entry = record { found = false; sale = record { first = 0; last = 0 }; purchase = record { first = 0; last = 0 } }

-- and so in the entry at the article's rank, if it has one
abbrev pub EntriesAfter : List Entry → Std.Option ℕ → Option Record → ℕ → ℕ → List Entry → Type 0
EntriesAfter old rank o at end new = MatchOption rank (new ≡ old) (λ i. (e : Entry) × EntryAfter (get_or old i no_entry) o at end e × (new ≡ set old i e))

-- ---- what is told

-- where the rows of a sort stand
abbrev pub rows_for : Entry → ℕ → Span
rows_for e sort = cond (eqb sort sale) e.sale e.purchase

abbrev pub sight_in : Entry → ℕ → Span → Sighted
sight_in e sort roundings = record { article = e.found; spans = record { rows = rows_for e sort; roundings = roundings } }

pub record ToldIs (e : Entry) (sort : ℕ) (roundings : Span) (r : Sighted) : Type 0 where
  pub is : r ≡ sight_in e sort roundings

abbrev pub no_sight : Sighted
no_sight = record { article = false; spans = record { rows = record { first = 0; last = 0 }; roundings = record { first = 0; last = 0 } } }

-- the entry at the rank of an article, with what is noted of the roundings, has what is found of it, for rows of any sort
pub record SeenAll (b bs : List ℕ) (names : List Name) (n : ℕ) (entries : List Entry) (roundings : Span) (noted : Noted) : Type 0 where
  pub each : (article : List ℕ) (sort r : ℕ) → FoundAt bs names n article r
      → FoundIs b article sort (found_in (sight_in (get_or entries r no_entry) sort roundings) noted)

-- what the entry at the rank of name j tells, for the sort beside the name
pub record ToldAt (bs : List ℕ) (names : List Name) (n : ℕ) (entries : List Entry) (roundings : Span) (j : ℕ) (r : Sighted) : Type 0 where
  pub rank : ℕ
  pub found : FoundAt bs names n (name_at bs names j) rank
  pub is : r ≡ sight_in (get_or entries rank no_entry) (get_or names j no_name).sort roundings

pub record ToldAll (bs : List ℕ) (names : List Name) (n : ℕ) (entries : List Entry) (roundings : Span) (all : List Sighted) : Type 0 where
  pub each : (j : ℕ) → j < n → ToldAt bs names n entries roundings j (get_or all j no_sight)

-- what is found of the name at rank j
abbrev pub found_for : Sights → ℕ → Found
found_for s j = found_in (get_or s.all j no_sight) s.noted

-- of each name: what a search of the book for this article and sort alone finds
pub record FoundAll (b bs : List ℕ) (names : List Name) (r : Sights) : Type 0 where
  pub each : (j : ℕ) → j < length names → FoundIs b (name_at bs names j) (get_or names j no_name).sort (found_for r j)
