-- The price call with derived names: it is the price of the same question with these names granted.
use Prim.Native.Nat.{ℕ}
use mathlib.Core.Path.{◌≡◌, refl}
use mathlib.Core.List.{List}
use mathlib.Core.Option.{some, none}
use Rattle.rules.specs.Book.{Record}
use Rattle.rules.specs.BookLayout.{records}
use Rattle.rules.specs.Question.{question_of}
use Rattle.rules.specs.Refusals.{Result, done, refused}
use Rattle.rules.specs.Refusals as Refusals
use Rattle.rules.specs.PlacedRefusals.{Done, RefusedAt, ◌>>=◌}
use Rattle.rules.specs.Price.{Answer, price, answered, in_room}
use Rattle.relation_rules.specs.Derived.{unplaced, granting, Derivation, derivation, price_derived}

-- one step after another, with places or without
unplaced_then : (r : Result Answer) (f : Answer → Result Answer) → unplaced r >>= (λ a. unplaced (f a)) ≡ unplaced (Refusals.◌>>=◌ r f)
unplaced_then (done a) f = refl
unplaced_then (refused n) f = refl

module _ (b s p relation : List ℕ) (room : ℕ) where
  -- Where names are derived, the answer is that of the price call for a question which is the same but grants those names, every refusal included.
  pub derived_price_lem : (book : List Record) (d : Derivation) (s' : List ℕ) → records b ≡ some book → derivation s p relation ≡ Done d
      → question_of s' ≡ some (granting d.question d.names) → price_derived b s p relation room ≡ unplaced (price b s' room)
  unfolding price_derived price
  derived_price_lem book d s' e f g = rw (e, f, g) (unplaced_then (answered book (granting d.question d.names)) (in_room room))

  -- Before that, a book that is none is 1, and then the derivation's refusals come as they are.
  pub derived_no_book : records b ≡ none → price_derived b s p relation room ≡ RefusedAt 1 0
  unfolding price_derived
  derived_no_book e = rw e refl

  pub derived_refused : (book : List Record) (k at : ℕ) → records b ≡ some book → derivation s p relation ≡ RefusedAt k at → price_derived b s p relation room ≡ RefusedAt k at
  unfolding price_derived
  derived_refused book k at e f = rw (e, f) refl
