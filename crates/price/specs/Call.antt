-- What the price call hands out.
use Rattle.std.specs.Prelude.{ℕ, ◌≡◌, List, pos, ◌*ℤ◌, length}
use Rattle.std.specs.Int.Count.{ones}
use Rattle.rules.specs.Reasons.{number_for}
use Rattle.rules.specs.Refusals.{refused}
use Rattle.rules.specs.declared.Refusal.{Refusal}
use Rattle.rules.specs.Price.{price, shown, lent_after_price}
use Rattle.rules.specs.Question.{letters_of}
use Rattle.rules.specs.declared.Outcome.{Outcome}
use Rattle.rules.specs.declared.PriceAnswer.{PriceAnswer}

-- so many pieces of this outcome, in n lines; the set of granted places that brought none
abbrev pub answer_with : ℕ → ℕ → Outcome → ℕ → PriceAnswer
answer_with quantity n o set =
    record {
      unit = o.unit.0;
      total = pos quantity *ℤ o.unit.0;
      lines = n;
      unused = set;
      unused_count = ones set;
      number = 0;
      currency = letters_of o.currency;
    }

-- the price call on a book b, a question s and a lent output: what it returns and what is then in the output
pub record PriceIs (b s lent : List ℕ) (r : PriceAnswer) (after : List ℕ) : Type 0 where
  pub answer : r ≡ shown (price b s (length lent))
  pub output : after ≡ lent_after_price (price b s (length lent)) lent

-- it refuses for this reason, and the output is as it was
pub record PriceRefused (b s lent : List ℕ) (x : Refusal) (after : List ℕ) : Type 0 where
  pub is : price b s (length lent) ≡ refused (number_for x)
  pub same : after ≡ lent
