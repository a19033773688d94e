-- A `do` block of placed results read backwards: where it is done, each of its lines was; where it is refused, one of them was, with that number and place.
use Prim.Native.Nat.{ℕ}
use mathlib.Core.Path.{◌≡◌, refl, sym, ap}
use mathlib.Core.Bool.{Bool, true, false}
use mathlib.Core.Option.{Option, some, none, none-ne-some, some-injective}
use mathlib.Core.Logic.{◌⊎◌, inl, inr}
use Rattle.rules.specs.PlacedRefusals.{ResultAt, Done, RefusedAt, ◌>>=◌, or_refuse_at, unless_at, unless_so}

abbrev answer_in : {A : Type 0} → ResultAt A → Option A
answer_in (Done a) = some a
answer_in (RefusedAt n p) = none

abbrev refusal_in : {A : Type 0} → ResultAt A → Option (ℕ × ℕ)
refusal_in (Done a) = none
refusal_in (RefusedAt n p) = some (n, p)

pub not_done : {A : Type 0} (n p : ℕ) (a : A) → RefusedAt n p ≡ Done a → ⊥
not_done n p a e = none-ne-some a (ap answer_in e)

pub done_is : {A : Type 0} (a b : A) → Done a ≡ Done b → a ≡ b
done_is a b e = some-injective a b (ap answer_in e)

-- two refusals that are one have one number and one place
pub refused_is : {A : Type 0} (n p m q : ℕ) → ◌≡◌ {A = ResultAt A} (RefusedAt n p) (RefusedAt m q) → (n ≡ m) × (p ≡ q)
refused_is {A} n p m q e =
    let f : ◌≡◌ {A = ℕ × ℕ} (n, p) (m, q) = some-injective (n, p) (m, q) (ap refusal_in e) in (ap (λ (x : ℕ × ℕ). x.0) f, ap (λ (x : ℕ × ℕ). x.1) f)

module _ {A B : Type 0} where
  pub then_done : (r : ResultAt A) (f : A → ResultAt B) {b : B} → (r >>= f) ≡ Done b → (a : A) × (r ≡ Done a) × (f a ≡ Done b)
  then_done (Done a) f e = (a, refl, e)
  then_done (RefusedAt n p) f {b} e = absurd (not_done n p b e)

  -- a refusal was the first line's, or came behind it
  pub then_refused : (r : ResultAt A) (f : A → ResultAt B) {n p : ℕ} → (r >>= f) ≡ RefusedAt n p → (r ≡ RefusedAt n p) ⊎ ((a : A) × (r ≡ Done a) × (f a ≡ RefusedAt n p))
  then_refused (Done a) f e = inr (a, refl, e)
  then_refused (RefusedAt m q) f {n} {p} e = inl (λ i. RefusedAt ((refused_is m q n p e).0 i) ((refused_is m q n p e).1 i))

module _ {A : Type 0} (n p : ℕ) where
  pub or_done : (o : Option A) {a : A} → or_refuse_at n p o ≡ Done a → o ≡ some a
  or_done none {a} e = absurd (not_done n p a e)
  or_done (some x) {a} e = ap some (done_is x a e)

  pub or_refused : (o : Option A) {m q : ℕ} → or_refuse_at n p o ≡ RefusedAt m q → (o ≡ none) × (n ≡ m) × (p ≡ q)
  or_refused none {m} {q} e = (refl, (refused_is n p m q e).0, (refused_is n p m q e).1)
  or_refused (some x) {m} {q} e = absurd (not_done m q x (sym e))

pub so_done : (n : ℕ) (b : Bool) {t : Unit {0}} → unless_so n b ≡ Done t → b ≡ true
so_done n true e = refl
so_done n false {t} e = absurd (not_done n 0 t e)

pub so_refused : (n : ℕ) (b : Bool) {m q : ℕ} → unless_so n b ≡ RefusedAt m q → (b ≡ false) × (n ≡ m) × (0 ≡ q)
so_refused n true {m} {q} e = absurd (not_done m q tt (sym e))
so_refused n false {m} {q} e = (refl, (refused_is n 0 m q e).0, (refused_is n 0 m q e).1)

pub at_done : (n : ℕ) (o : Option ℕ) {t : Unit {0}} → unless_at n o ≡ Done t → o ≡ none
at_done n none e = refl
at_done n (some p) {t} e = absurd (not_done n p t e)

pub at_refused : (n : ℕ) (o : Option ℕ) {m q : ℕ} → unless_at n o ≡ RefusedAt m q → (n ≡ m) × (o ≡ some q)
at_refused n none {m} {q} e = absurd (not_done m q tt (sym e))
at_refused n (some p) {m} {q} e = ((refused_is n p m q e).0, ap some (refused_is n p m q e).1)
