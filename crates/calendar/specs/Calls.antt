-- What the calendar calls hand out.
use Rattle.std.specs.Prelude.{ℕ, ◌≡◌, List, length}
use Rattle.rules.specs.Calendar.{calendar, shown_bytes, lent_after_calendar, calendar_list, shown_records, lent_after_list}
use Rattle.rules.specs.declared.CalendarAnswer.{CalendarAnswer}
use Rattle.stretches.specs.declared.Stretch.{Stretch}
use Rattle.stretches.specs.Stretches.{record_of}

-- the calendar call on a book b, a question s, an end date and a lent output: what it returns and what is then in the output
pub record CalendarIs (b s : List ℕ) (end : ℕ) (lent : List ℕ) (r : CalendarAnswer) (after : List ℕ) : Type 0 where
  pub answer : r ≡ shown_bytes (calendar b s end (length lent))
  pub output : after ≡ lent_after_calendar (calendar b s end (length lent)) lent

-- and the call that hands over a list of records
pub record CalendarListIs (b s : List ℕ) (end : ℕ) (lent : List Stretch) (r : CalendarAnswer) (after : List Stretch) : Type 0 where
  pub answer : r ≡ shown_records (calendar_list b s end (length lent))
  pub output : after ≡ lent_after_list record_of (calendar_list b s end (length lent)) lent
