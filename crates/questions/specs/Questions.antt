-- Questions lent end to end: where each of them stands, and where the articles are named.
use Rattle.std.specs.Prelude.{ℕ, ◌+◌, ◌≤◌, ◌<◌, ◌≡◌, true, List, [], length, drop, get_or, MatchOption}
use Rattle.std.specs.Prelude as Std
use Rattle.std.proofs.Math.Option.{Option, some, none}
use Rattle.rules.specs.Lists.{is_some}
use Rattle.rules.specs.Layout.{whole, repeated}
use Rattle.rules.specs.Bytes.{own_length}
use Rattle.rules.specs.Question.{Question, question_of}
use Rattle.rules.specs.Questions.{one_question, questions_of}
use Rattle.layout.specs.Reads.{part}
use Rattle.questions.specs.declared.Questions.{Questions}
use Rattle.questions.specs.declared.Name.{Name}
use Rattle.questions.specs.declared.Lent.{Lent}

-- ---- one question

-- an accepted question stands there
pub record QuestionHere (s : List ℕ) (l : Lent) : Type 0 where
  pub low : l.start ≤ l.end
  pub fits : l.end ≤ length s
  pub ok : is_some (question_of (part s l.start l.end)) ≡ true

-- and it is this one
pub record QuestionAt (s : List ℕ) (l : Lent) (q : Question) : Type 0 where
  pub low : l.start ≤ l.end
  pub fits : l.end ≤ length s
  pub is : question_of (part s l.start l.end) ≡ some q

-- the question at `at` is as long as it says and ends at `r`
pub record EndsAt (s : List ℕ) (at r : ℕ) : Type 0 where
  pub own : r ≡ at + own_length (drop at s)
  pub low : at + 5 ≤ r
  pub here : QuestionHere s (record { start = at; end = r })

-- there is none
pub record NoneAt (s : List ℕ) (at : ℕ) : Type 0 where
  pub none : one_question (drop at s) ≡ none

abbrev pub QuestionEnd : List ℕ → ℕ → Std.Option ℕ → Type 0
QuestionEnd s at r = MatchOption r (NoneAt s at) (EndsAt s at)

-- ---- all of them

-- those from a place to the end
unfoldable pub questions_from : List ℕ → ℕ → Option (List Question)
questions_from s at = whole (repeated one_question) (drop at s)

-- past the end of a list there is none
abbrev pub no_question : Question
no_question = record {
  article = [];
  sort = 0;
  currency = none;
  date = 0;
  quantity = 0;
  granted = [];
  properties = [];
}

-- past the end of a list of stretches there is none
abbrev pub nowhere : Lent
nowhere = record { start = 0; end = 0 }

-- the first n of these questions stand at these places
abbrev pub StandAt : List ℕ → List Lent → ℕ → List Question → Type 0
StandAt s ls n qs = (j : ℕ) → j < n → QuestionAt s (get_or ls j nowhere) (get_or qs j no_question)

-- s is questions end to end, at most so many, and `r` says where each of them stands
pub record QuestionsRead (s : List ℕ) (most : ℕ) (r : Questions) : Type 0 where
  pub ok : is_some (questions_of most s) ≡ true
  pub few : r.count ≤ most
  pub long : length r.stretches ≡ 500
  pub count : (qs : List Question) → questions_of most s ≡ some qs → r.count ≡ length qs
  pub each : (qs : List Question) → questions_of most s ≡ some qs → StandAt s r.stretches r.count qs

-- it is not
pub record NoQuestions (s : List ℕ) (most : ℕ) : Type 0 where
  pub is : questions_of most s ≡ none

abbrev pub QuestionsAre : List ℕ → ℕ → Std.Option Questions → Type 0
QuestionsAre s most r = MatchOption r (NoQuestions s most) (QuestionsRead s most)

-- accepted questions, at most 500, stand at these places
pub record QuestionsHere (s : List ℕ) (ls : List Lent) : Type 0 where
  pub few : length ls ≤ 500
  pub each : (j : ℕ) → j < length ls → QuestionHere s (get_or ls j nowhere)

-- ---- the articles that they ask for

-- `r` is where the question there names its article, and its sort
pub record NameIs (s : List ℕ) (l : Lent) (r : Name) : Type 0 where
  pub order : r.start ≤ r.end
  pub inside : r.end ≤ length s
  pub article : (q : Question) → question_of (part s l.start l.end) ≡ some q → part s r.start r.end ≡ q.article
  pub sort : (q : Question) → question_of (part s l.start l.end) ≡ some q → r.sort ≡ q.sort

-- past the end of a list of names there is none
abbrev pub no_name : Name
no_name = record { start = 0; end = 0; sort = 0 }

-- of each of the questions
pub record NamesAre (s : List ℕ) (ls : List Lent) (r : List Name) : Type 0 where
  pub long : length r ≡ 500
  pub each : (j : ℕ) → j < length ls → NameIs s (get_or ls j nowhere) (get_or r j no_name)

-- ---- a list of names

-- name j of the list
abbrev pub name_at : List ℕ → List Name → ℕ → List ℕ
name_at s names j = part s (get_or names j no_name).start (get_or names j no_name).end

-- the first n names, of at most 500, stand in s
pub record Listed (s : List ℕ) (names : List Name) (n : ℕ) : Type 0 where
  pub few : n ≤ 500
  pub order : (j : ℕ) → j < n → (get_or names j no_name).start ≤ (get_or names j no_name).end
  pub inside : (j : ℕ) → j < n → (get_or names j no_name).end ≤ length s
