-- What is found of an article and sort in a book, and what a survey of lent bytes tells.
use Rattle.std.specs.Prelude.{ℕ, ◌≡◌, true, false, ◌||◌, List, replicate, MatchOption, Result, MatchResult}
use Rattle.std.specs.Prelude as Std
use Rattle.std.proofs.Math.Option.{Option}
use Rattle.rules.specs.Lists.{is_some}
use Rattle.rules.specs.Book.{Record, article_of}
use Rattle.rules.specs.BookLayout.{records}
use Rattle.layout.specs.Records.{records_left}
use Rattle.records.specs.Tests as Tests
use Rattle.survey.specs.declared.Found.{Found}
use Rattle.survey.specs.declared.Sighted.{Sighted}
use Rattle.survey.specs.declared.window.Noted.{Noted}
use Rattle.survey.specs.declared.window.Window.{Window}
use Rattle.rules.specs.declared.Refusal.{Refusal}
use Rattle.rules.specs.declared.Refusal.TheVariants.{NoArticle}
use Rattle.survey.specs.Window.{SpansAfter, Windows}

-- nothing seen: the spans are still empty, behind a header
abbrev pub unseen : Sighted
unseen = record { article = false; spans = record { rows = record { first = 5; last = 5 }; roundings = record { first = 5; last = 5 } } }

-- what was found, by what was kept of the article and what was noted of the roundings
abbrev pub found_in : Sighted → Noted → Found
found_in s k = record { article = s.article; window = record { spans = s.spans; noted = k } }

pub record FoundOf (s : Sighted) (k : Noted) (r : Found) : Type 0 where
  pub is : r ≡ found_in s k

-- no rounding noted
abbrev pub none_noted : Noted
none_noted = record { count = 0; spots = replicate 16 0 }

-- `r` is what is kept once the record o, which stands from `at` to `end`, has gone by too
pub record SightedAfter (s : Sighted) (article : List ℕ) (sort : ℕ) (o : Option Record) (at end : ℕ) (r : Sighted) : Type 0 where
  pub there : r.article ≡ (s.article || Tests.article_of article o)
  pub spans : SpansAfter s.spans (Tests.is_row article sort o) (Tests.is_rounding o) at end r.spans

-- of the book b: whether it has the article, and the window of the article and sort
pub record FoundIs (b article : List ℕ) (sort : ℕ) (r : Found) : Type 0 where
  pub there : r.article ≡ is_some (article_of (records_left b 5) article)
  pub window : Windows b 5 article sort r.window

-- b is a book, and this is found in it
pub record BookFound (b article : List ℕ) (sort : ℕ) (r : Found) : Type 0 where
  pub book : is_some (records b) ≡ true
  pub found : FoundIs b article sort r

-- nothing is found in no book
pub record NoBook (b : List ℕ) : Type 0 where
  pub is : is_some (records b) ≡ false

abbrev pub SurveyIs : List ℕ → List ℕ → ℕ → Std.Option Found → Type 0
SurveyIs b article sort r = MatchOption r (NoBook b) (BookFound b article sort)

-- the article has a record, and this is its window
pub record Known (k : Found) (w : Window) : Type 0 where
  pub article : k.article ≡ true
  pub window : w ≡ k.window

-- it has none
pub record Unknown (k : Found) (x : Refusal) : Type 0 where
  pub article : k.article ≡ false
  pub is : x ≡ NoArticle

abbrev pub IsKnown : Found → Result Window Refusal → Type 0
IsKnown k r = MatchResult r (Known k) (Unknown k)
