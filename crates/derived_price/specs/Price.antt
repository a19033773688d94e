-- What is read of the price with derived names: beside a refusal, and of a price.
use Rattle.std.specs.Prelude.{ℕ, ◌≡◌, List, pos, length}
use Rattle.rules.specs.Book.{Record}
use Rattle.rules.specs.Question.{no_currency}
use Rattle.rules.specs.Reasons.{number_for}
use Rattle.rules.specs.declared.Refusal.{Refusal}
use Rattle.rules.specs.PlacedRefusals.{ResultAt, ◌>>=◌}
use Rattle.rules.specs.Price.{Answer, in_room}
use Rattle.rules.specs.declared.PriceAnswer.{PriceAnswer}
use Rattle.price.specs.Answered.{answered_to}
use Rattle.relation_rules.specs.Derived.{unplaced}
use Rattle.relation_rules.specs.Calls.{shown_derived, lent_after_derived}
use Rattle.relation_rules.specs.declared.DerivedAnswer.{DerivedAnswer}
use Rattle.derived_price.specs.declared.Refused.{Refused}

-- a reason without a place
pub record Unplaced (x : Refusal) (r : Refused) : Type 0 where
  pub is : r ≡ record { number = number_for x; place = 0 }

-- zeros beside the number and the place of a refusal
abbrev pub refused_by : ℕ → ℕ → DerivedAnswer
refused_by number place = record {
  unit = pos 0;
  total = pos 0;
  lines = 0;
  place = place;
  unused = 0;
  unused_count = 0;
  number = number;
  currency = no_currency;
}

pub record RefusalIs (number place : ℕ) (r : DerivedAnswer) : Type 0 where
  pub is : r ≡ refused_by number place

-- a price's answer, with place 0
abbrev pub without_place : PriceAnswer → DerivedAnswer
without_place a = record {
  unit = a.unit;
  total = a.total;
  lines = a.lines;
  place = 0;
  unused = a.unused;
  unused_count = a.unused_count;
  number = a.number;
  currency = a.currency;
}

pub record PlainIs (a : PriceAnswer) (r : DerivedAnswer) : Type 0 where
  pub is : r ≡ without_place a

-- the price of the question s in a book, where so much room is lent: refusals 3 to 7, each with place 0
unfoldable pub priced_in : List Record → List ℕ → ℕ → ResultAt Answer
priced_in book s room = do
  a ← unplaced (answered_to book s)
  unplaced (in_room room a)

pub record PricedIs (book : List Record) (s lent : List ℕ) (r : DerivedAnswer) (after : List ℕ) : Type 0 where
  pub answer : r ≡ shown_derived (priced_in book s (length lent))
  pub output : after ≡ lent_after_derived (priced_in book s (length lent)) lent
