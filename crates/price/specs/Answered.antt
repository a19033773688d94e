-- What is answered to the question in some bytes where there is room enough.
use Rattle.std.specs.Prelude.{ℕ, ◌+◌, ◌*◌, ◌≤◌, ◌<◌, ◌≡◌, true, List, nat_abs, length, get_or, Some, None, MatchOption}
use Rattle.std.specs.Prelude as Std
use Rattle.std.proofs.Math.Option.{some}
use Rattle.rules.specs.Lists.{is_some}
use Rattle.rules.specs.Book.{Record}
use Rattle.rules.specs.Question.{Question, question_of}
use Rattle.rules.specs.Reasons.{number_for}
use Rattle.rules.specs.Refusals.{Result, done, refused, ◌>>=◌, or_refuse}
use Rattle.rules.specs.declared.Refusal.{Refusal}
use Rattle.rules.specs.Lines.{line_size}
use Rattle.rules.specs.Price.{Answer, answered, written, shown}
use Rattle.rules.specs.Basket.{lines_in}
use Rattle.rules.specs.declared.Cents.{Cents}
use Rattle.rules.specs.declared.PriceAnswer.{PriceAnswer}
use Rattle.layout.specs.Ensures.{PutsTo}
use Rattle.survey.specs.declared.Found.{Found}
use Rattle.survey.specs.Survey.{FoundIs}
use Rattle.lines.specs.declared.Pick.{Pick}
use Rattle.lines.specs.Views.{views_in, amounts_in, views_bytes, no_cents}
use Rattle.lines.specs.Ensures.{most_amount}
use Rattle.price.specs.declared.answered.Answered.{Answered}

unfoldable pub answered_to : List Record → List ℕ → Result Answer
answered_to book s = do
  q ← or_refuse 2 (question_of s)
  answered book q

abbrev pub lines_to : List Record → List ℕ → List ℕ
lines_to book s = lines_in (answered_to book s)

-- s is a question, and this is what the book b has for it
pub record Ready (b s : List ℕ) (found : Found) : Type 0 where
  pub ok : is_some (question_of s) ≡ true
  pub has : (q : Question) → question_of s ≡ some q → FoundIs b q.article q.sort found

-- what is read of it, and how many bytes its lines have
pub record AnswerTo (book : List Record) (s : List ℕ) (r : PriceAnswer) : Type 0 where
  pub is : r ≡ shown (answered_to book s)
  pub few : r.lines ≤ 99
  pub size : line_size * r.lines ≡ length (lines_to book s)

-- there is room for these bytes from `at` on
pub record HasRoom (out : List ℕ) (at : ℕ) (new : List ℕ) : Type 0 where
  pub fits : at + length new ≤ length out

-- these are the rows of n lines, with amounts that can be written
pub record Listed (rows : List Pick) (amounts : List Cents) (n : ℕ) : Type 0 where
  pub few : n ≤ 99
  pub each_in : (i : ℕ) → nat_abs (get_or amounts i no_cents).0 ≤ most_amount
  pub size : length (views_bytes (views_in rows n) (amounts_in amounts n)) ≡ line_size * n

-- what is read of a day's price has no number, or 4 to 6
pub record PriceNumber (n : ℕ) : Type 0 where
  pub most : n ≤ 6
  pub least : 0 < n → 4 ≤ n

-- `r` is the start, if so many bytes have room from there on
abbrev pub RoomFor : ℕ → Std.Option ℕ → ℕ → Std.Option ℕ → Type 0
RoomFor room None size r = r ≡ None
RoomFor room (Some at) size r = MatchOption r (room < at + size) (λ e. (e ≡ at) × (at + size ≤ room))

-- the bytes have room from `at` on, are put there and end at `r`
pub record PutsWithin (old : List ℕ) (at : ℕ) (bytes new : List ℕ) (r : ℕ) : Type 0 where
  pub fits : at + length bytes ≤ length old
  pub put : PutsTo old at bytes new r

-- they have none, and nothing is put
pub record PutsNothing (old : List ℕ) (at : ℕ) (bytes new : List ℕ) : Type 0 where
  pub full : length old < at + length bytes
  pub same : new ≡ old

-- the bytes are put from the start on and end at `r`, if there is room for them; behind what found no room is none
abbrev pub PutsIfRoom : List ℕ → Std.Option ℕ → List ℕ → List ℕ → Std.Option ℕ → Type 0
PutsIfRoom old None bytes new r = (r ≡ None) × (new ≡ old)
PutsIfRoom old (Some at) bytes new r = MatchOption r (PutsNothing old at bytes new) (PutsWithin old at bytes new)

-- the question has a price: what is read of it, and its lines
pub record PricedTo (book : List Record) (q : Question) (old : List ℕ) (start : Std.Option ℕ) (new : List ℕ) (r : Answered) : Type 0 where
  pub price : Answer
  pub is : answered book q ≡ done price
  pub told : r.answer ≡ shown (done price)
  pub few : r.answer.lines ≤ 99
  pub size : line_size * r.answer.lines ≡ length (written price)
  pub lines : PutsIfRoom old start (written price) new r.end

-- it has none, for this reason
pub record RefusedTo (book : List Record) (q : Question) (old new : List ℕ) (x : Refusal) : Type 0 where
  pub is : answered book q ≡ refused (number_for x)
  pub same : new ≡ old

-- what is read, and its lines
pub record AnsweredIs (book : List Record) (s old : List ℕ) (start : Std.Option ℕ) (new : List ℕ) (r : Answered) : Type 0 where
  pub told : AnswerTo book s r.answer
  pub lines : PutsIfRoom old start (lines_to book s) new r.end
