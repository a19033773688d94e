-- What the entrance of a call tells of the bytes of a book and of a question.
use Rattle.std.specs.Prelude.{ℕ, ◌≡◌, List, Result, MatchResult}
use Rattle.std.proofs.Math.Option.{Option, some, none}
use Rattle.rules.specs.Book.{Record}
use Rattle.rules.specs.BookLayout.{records}
use Rattle.rules.specs.Question.{Question, question_of}
use Rattle.rules.specs.Reasons.{number_for}
use Rattle.rules.specs.declared.Refusal.{Refusal}
use Rattle.question.specs.Asked.{ask_in, AskIs}
use Rattle.survey.specs.declared.entrance.Entered.{Entered}
use Rattle.survey.specs.Survey.{FoundIs}

-- 1 where there is no book, whatever the question is; 2 where there is one, but no question; 0 where both are there
unfoldable pub entry : Option (List Record) → Option Question → ℕ
entry none q = 1
entry (some book) none = 2
entry (some book) (some q) = 0

-- the question that s is, and what is found of its article and sort
pub record Entering (b s : List ℕ) (r : Entered) : Type 0 where
  pub number_is : entry (records b) (question_of s) ≡ 0
  pub ask_is : AskIs s r.ask
  pub found_is : FoundIs b (ask_in s r.ask).article r.ask.sort r.found

-- the refusal that is due
pub record KeptOut (b s : List ℕ) (r : Refusal) : Type 0 where
  pub number_is : entry (records b) (question_of s) ≡ number_for r

abbrev pub EnteredIs : List ℕ → List ℕ → Result Entered Refusal → Type 0
EnteredIs b s r = MatchResult r (Entering b s) (KeptOut b s)
