-- What is found in a book for each question of a basket.
use Rattle.std.specs.Prelude.{ℕ, ◌<◌, ◌≡◌, true, List, length, get_or, MatchOption}
use Rattle.std.specs.Prelude as Std
use Rattle.std.proofs.Math.Option.{some}
use Rattle.rules.specs.Lists.{is_some}
use Rattle.rules.specs.Question.{Question, question_of}
use Rattle.rules.specs.BookLayout.{records}
use Rattle.layout.specs.Reads.{part}
use Rattle.questions.specs.declared.Lent.{Lent}
use Rattle.questions.specs.Questions.{nowhere}
use Rattle.survey.specs.declared.Found.{Found}
use Rattle.survey.specs.Survey.{FoundIs, NoBook}
use Rattle.wanted.specs.declared.Sights.{Sights}
use Rattle.wanted.specs.Entries.{found_for}

-- b is a book, and this is what it has for the question at each of these places
pub record HasEach (b s : List ℕ) (ls : List Lent) (r : Sights) : Type 0 where
  pub book : is_some (records b) ≡ true
  pub has : (j : ℕ) → j < length ls → (q : Question) → question_of (part s (get_or ls j nowhere).start (get_or ls j nowhere).end) ≡ some q
      → FoundIs b q.article q.sort (found_for r j)

abbrev pub LocatedIs : List ℕ → List ℕ → List Lent → Std.Option Sights → Type 0
LocatedIs b s ls r = MatchOption r (NoBook b) (HasEach b s ls)

-- the first on the list has what was found
pub record FirstFound (found : Found) (r : Sights) : Type 0 where
  pub is : found_for r 0 ≡ found
