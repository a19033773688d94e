-- The questions of a basket with what the book has for each of them, and what is then answered.
use Rattle.std.specs.Prelude.{ℕ, ◌*◌, ◌≤◌, ◌<◌, ◌≡◌, List, [], ◌∷◌, ◌++◌, map, length, take, get_or, replicate, IfSome}
use Rattle.std.specs.Prelude as Std
use Rattle.std.proofs.Math.Option.{some}
use Rattle.rules.specs.Lists.{if_some, join}
use Rattle.rules.specs.Bytes.{signed_bytes_of}
use Rattle.rules.specs.BookLayout.{records}
use Rattle.rules.specs.Lines.{line_size}
use Rattle.rules.specs.Question.{Question}
use Rattle.rules.specs.Questions.{questions_of}
use Rattle.rules.specs.Reasons.{number_for}
use Rattle.rules.specs.Refusals.{Result, refused}
use Rattle.rules.specs.declared.Refusal.{Refusal}
use Rattle.rules.specs.Price.{Answer, answered}
use Rattle.rules.specs.Basket.{most_basket, answer_bytes, answer_in, lines_in, basket, shown_basket, lent_after_basket}
use Rattle.rules.specs.declared.PriceAnswer.{PriceAnswer}
use Rattle.rules.specs.declared.Written.{Written}
use Rattle.layout.specs.Ensures.{Puts}
use Rattle.layout.specs.Reads.{part}
use Rattle.layout.specs.Records.{records_left}
use Rattle.questions.specs.declared.Lent.{Lent}
use Rattle.questions.specs.Questions.{no_question, nowhere, StandAt}
use Rattle.survey.specs.Survey.{FoundIs}
use Rattle.wanted.specs.declared.Sights.{Sights}
use Rattle.wanted.specs.Entries.{found_for}
use Rattle.basket.specs.declared.answers.Answers.{Answers}

-- ---- the questions

-- those that the bytes are; none where they are not that
abbrev pub asked : List ℕ → List Question
asked s = if_some (questions_of most_basket s) [] (λ qs. qs)

-- they stand at these positions, and this is what the book has for each
pub record Basketed (b s : List ℕ) (ls : List Lent) (found : Sights) : Type 0 where
  pub is_book : records b ≡ some (records_left b 5)
  pub are : questions_of most_basket s ≡ some (asked s)
  pub few : length ls ≤ most_basket
  pub count : length (asked s) ≡ length ls
  pub stand : StandAt s ls (length ls) (asked s)
  pub has : (j : ℕ) → j < length ls → FoundIs b (get_or (asked s) j no_question).article (get_or (asked s) j no_question).sort (found_for found j)

-- the bytes of question j
abbrev pub question_at : List ℕ → List Lent → ℕ → List ℕ
question_at s ls j = part s (get_or ls j nowhere).start (get_or ls j nowhere).end

-- ---- what is answered to them

abbrev pub outcomes : List ℕ → List ℕ → List (Result Answer)
outcomes b s = map (answered (records_left b 5)) (asked s)

abbrev pub all_answers : List ℕ → List ℕ → List ℕ
all_answers b s = join (map answer_in (outcomes b s))

abbrev pub all_lines : List ℕ → List ℕ → List ℕ
all_lines b s = join (map lines_in (outcomes b s))

-- ---- in bytes

-- number, unit total, total
abbrev pub totals_bytes : PriceAnswer → List ℕ
totals_bytes a = a.number ∷ (signed_bytes_of 8 a.unit ++ signed_bytes_of 8 a.total)

pub record AnswerPut (old : List ℕ) (at : ℕ) (a : PriceAnswer) (new : List ℕ) : Type 0 where
  pub puts : Puts old at (answer_bytes a) new
  pub size : length (answer_bytes a) ≡ 33

-- these bytes are kept in front of `end`
pub record KeptTo (kept bytes : List ℕ) (end : ℕ) : Type 0 where
  pub fits : end ≤ length kept
  pub is : take end kept ≡ bytes

-- if they were not too many
abbrev pub Kept : List ℕ → Std.Option ℕ → List ℕ → Type 0
Kept kept end bytes = IfSome end (KeptTo kept bytes)

pub record AnswersAre (b s kept : List ℕ) (r : Answers) : Type 0 where
  pub bytes : Puts (replicate 6600 0) 0 (all_answers b s) r.bytes
  pub size : length (all_answers b s) ≡ 33 * length (asked s)
  pub lines : line_size * r.lines ≡ length (all_lines b s)
  pub few : r.lines ≤ 99 * length (asked s)
  pub keeps : Kept kept r.end (all_lines b s)

-- ---- the call

-- on a book b, questions s and a lent output: what it returns and what is then in the output
pub record BasketIs (b s lent : List ℕ) (r : Written) (after : List ℕ) : Type 0 where
  pub answer : r ≡ shown_basket (basket b s (length lent))
  pub output : after ≡ lent_after_basket (basket b s (length lent)) lent

-- it refuses for this reason, and the output is as it was
pub record BasketRefused (b s lent : List ℕ) (x : Refusal) (after : List ℕ) : Type 0 where
  pub is : basket b s (length lent) ≡ refused (number_for x)
  pub same : after ≡ lent
