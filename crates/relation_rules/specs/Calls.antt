-- What the two calls that derive names hand out: the answer, and what is then in the lent output.
use Rattle.std.specs.Prelude.{ℕ, ◌≡◌, List, length, pos}
use Rattle.rules.specs.Question.{no_currency}
use Rattle.rules.specs.PlacedRefusals.{ResultAt, number_at, place_at, or_zero_at, lent_after_at}
use Rattle.rules.specs.Price.{Answer, written, set_of}
use Rattle.rules.specs.declared.PlacedAnswer.{PlacedAnswer}
use Rattle.relation_rules.specs.Derived.{derive, price_derived}
use Rattle.relation_rules.specs.declared.DerivedAnswer.{DerivedAnswer}

unfoldable pub shown_derive : ResultAt (List ℕ) → PlacedAnswer
shown_derive r = record { length = or_zero_at 0 length r; place = place_at r; number = number_at r }

abbrev pub lent_after_derive : ResultAt (List ℕ) → List ℕ → List ℕ
lent_after_derive r lent = lent_after_at (λ s. s) r lent

-- the question with the names that a text derives, on a question s, properties p, a text t and a lent output
pub record DeriveIs (s p t lent : List ℕ) (r : PlacedAnswer) (after : List ℕ) : Type 0 where
  pub answer : r ≡ shown_derive (derive s p t (length lent))
  pub output : after ≡ lent_after_derive (derive s p t (length lent)) lent

unfoldable pub shown_derived : ResultAt Answer → DerivedAnswer
shown_derived r = record {
  unit = or_zero_at (pos 0) (λ a. a.unit) r;
  total = or_zero_at (pos 0) (λ a. a.total) r;
  lines = or_zero_at 0 (λ a. length a.lines) r;
  place = place_at r;
  unused = or_zero_at 0 (λ a. set_of a.unused) r;
  unused_count = or_zero_at 0 (λ a. length a.unused) r;
  number = number_at r;
  currency = or_zero_at no_currency (λ a. a.currency) r;
}

abbrev pub lent_after_derived : ResultAt Answer → List ℕ → List ℕ
lent_after_derived r lent = lent_after_at written r lent

-- the price of that question in a book b
pub record DerivedIs (b s p t lent : List ℕ) (r : DerivedAnswer) (after : List ℕ) : Type 0 where
  pub answer : r ≡ shown_derived (price_derived b s p t (length lent))
  pub output : after ≡ lent_after_derived (price_derived b s p t (length lent)) lent
