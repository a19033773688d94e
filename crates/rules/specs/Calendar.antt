-- "Calendar": the outcome of each day of a period, and the longest stretches of days with one outcome.
use Rattle.std.specs.Prelude.{ℕ, ◌≡◌, Bool, true, false, ◌&&◌, cond, List, [], ◌∷◌, ◌++◌, map, eqb, leb, length, ℤ, pos, negsuc}
use Rattle.std.proofs.Math.Option.{Option, none}
use Rattle.rules.specs.Lists.{same, join}
use Rattle.rules.specs.Bytes.{bytes_of, signed_bytes_of}
use Rattle.rules.specs.Days.{is_day, days_to}
use Rattle.rules.specs.Book.{Record, article_of}
use Rattle.rules.specs.BookLayout.{records}
use Rattle.rules.specs.Question.{Question, question_of, on, no_currency, letters_of}
use Rattle.rules.specs.Lines.{total}
use Rattle.rules.specs.Refusals.{Result, done, ◌>>=◌, or_refuse, refuse_unless, number_of, or_zero, lent_after}
use Rattle.rules.specs.Price.{Priced, priced}
use Rattle.rules.specs.declared.CalendarAnswer.{CalendarAnswer}
use Rattle.rules.specs.declared.Outcome as Declared

-- ---- the outcome of a day

-- 0 with a currency and a unit total; or a refusal, with zeros
pub record Outcome : Type 0 where
  pub refusal : ℕ
  pub currency : List ℕ
  pub unit : ℤ

-- the outcome for which one in the code stands
abbrev pub as_outcome : Declared.Outcome → Outcome
as_outcome r = record { refusal = r.refusal; currency = letters_of r.currency; unit = r.unit.0 }

-- `r` in the code stands for this outcome
pub record OutcomeIs (o : Outcome) (r : Declared.Outcome) : Type 0 where
  pub is : as_outcome r ≡ o

unfoldable pub outcome_of : Result Priced → Outcome
outcome_of r = record {
  refusal = number_of r;
  currency = or_zero no_currency (λ p. p.currency) r;
  unit = or_zero (pos 0) (λ p. total p.lines) r;
}

-- each day is priced alone
unfoldable pub outcome : List Record → Question → ℕ → Outcome
outcome book q d = outcome_of (priced book (on q d))

abbrev pub same_int : ℤ → ℤ → Bool
same_int (pos a) (pos b) = eqb a b
same_int (pos a) (negsuc b) = false
same_int (negsuc a) (pos b) = false
same_int (negsuc a) (negsuc b) = eqb a b

unfoldable pub same_outcome : Outcome → Outcome → Bool
same_outcome a b = eqb a.refusal b.refusal && (same a.currency b.currency && same_int a.unit b.unit)

-- ---- stretches

pub record Stretch : Type 0 where
  pub first : ℕ
  pub last : ℕ
  pub outcome : Outcome

-- a day before a stretch makes it longer, or is a stretch of its own
abbrev pub longer : Bool → ℕ → Outcome → Stretch → List Stretch → List Stretch
longer true d o s ss = record { first = d; last = s.last; outcome = s.outcome } ∷ ss
longer false d o s ss = record { first = d; last = d; outcome = o } ∷ s ∷ ss

abbrev pub before : ℕ → Outcome → List Stretch → List Stretch
before d o [] = record { first = d; last = d; outcome = o } ∷ []
before d o (s ∷ ss) = longer (same_outcome o s.outcome) d o s ss

unfoldable pub stretches : (ℕ → Outcome) → List ℕ → List Stretch
stretches f [] = []
stretches f (d ∷ ds) = before d (f d) (stretches f ds)

-- the 20 bytes of a stretch
abbrev pub stretch_bytes : Stretch → List ℕ
stretch_bytes s = bytes_of 4 s.first ++ (bytes_of 4 s.last ++ (s.outcome.refusal ∷ (s.outcome.currency ++ signed_bytes_of 8 s.outcome.unit)))

unfoldable pub stretches_bytes : List Stretch → List ℕ
stretches_bytes ss = join (map stretch_bytes ss)

-- ---- what is listed: refusals 1, 2, 9, 3

abbrev pub most_days : ℕ
most_days = 1096

-- the days of a period, both ends among them
unfoldable pub period_to : ℕ → ℕ → Option (List ℕ)
period_to start end = cond (is_day end && leb start end) (days_to most_days start end) none

-- of an accepted book and question
unfoldable pub within : List Record → Question → ℕ → Result (List Stretch)
within book q end = do
  days ← or_refuse 9 (period_to q.date end)
  _ ← or_refuse 3 (article_of book q.article)
  done (stretches (outcome book q) days)

-- of any bytes
unfoldable pub listing : List ℕ → List ℕ → ℕ → Result (List Stretch)
listing book_bytes question_bytes end = do
  book ← or_refuse 1 (records book_bytes)
  q ← or_refuse 2 (question_of question_bytes)
  within book q end

-- ---- the call: refusal 7 behind them

unfoldable pub finished : (List Stretch → ℕ) → ℕ → Result (List Stretch) → Result (List Stretch)
finished size room o = do
  ss ← o
  _ ← refuse_unless 7 (leb (size ss) room)
  done ss

-- `form` is what would be written: bytes, or a list of records
unfoldable pub calendar_in : {B : Type 0} → (List Stretch → List B) → List ℕ → List ℕ → ℕ → ℕ → Result (List Stretch)
calendar_in form book_bytes question_bytes end room = finished (λ ss. length (form ss)) room (listing book_bytes question_bytes end)

-- ---- as bytes

abbrev pub calendar : List ℕ → List ℕ → ℕ → ℕ → Result (List Stretch)
calendar book_bytes question_bytes end room = calendar_in stretches_bytes book_bytes question_bytes end room

unfoldable pub shown_bytes : Result (List Stretch) → CalendarAnswer
shown_bytes r = record { length = or_zero 0 (λ ss. length (stretches_bytes ss)) r; number = number_of r }

abbrev pub lent_after_calendar : Result (List Stretch) → List ℕ → List ℕ
lent_after_calendar r lent = lent_after stretches_bytes r lent

-- ---- as a lent list of records, one for each stretch

abbrev pub calendar_list : List ℕ → List ℕ → ℕ → ℕ → Result (List Stretch)
calendar_list book_bytes question_bytes end room = calendar_in (λ ss. ss) book_bytes question_bytes end room

unfoldable pub shown_records : Result (List Stretch) → CalendarAnswer
shown_records r = record { length = or_zero 0 length r; number = number_of r }

-- `form` is the record of a stretch
unfoldable pub lent_after_list : {R : Type 0} → (Stretch → R) → Result (List Stretch) → List R → List R
lent_after_list form r lent = lent_after (map form) r lent
