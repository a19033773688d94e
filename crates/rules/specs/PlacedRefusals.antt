-- "Numbers a caller can get", where a refusal also says at which place: the number of a line or of a byte, from 1. Any other refusal has place 0.
--
--   13  a line of a price file makes no record; or a price record cannot be written to one
use Rattle.std.specs.Prelude.{ℕ, Bool, true, false, List}
use Rattle.std.proofs.Math.Option.{Option, some, none}
use Rattle.rules.specs.Refusals.{over}

pub data ResultAt (A : Type 0) : Type 0 where
  Done : A → ResultAt A
  RefusedAt : ℕ → ℕ → ResultAt A

infixl 20 ◌>>=◌
abbrev pub ◌>>=◌ : {A B : Type 0} → ResultAt A → (A → ResultAt B) → ResultAt B
◌>>=◌ (Done a) f = f a
◌>>=◌ (RefusedAt n p) f = RefusedAt n p

-- the value, or else the refusal with its place
abbrev pub or_refuse_at : {A : Type 0} → ℕ → ℕ → Option A → ResultAt A
or_refuse_at n p none = RefusedAt n p
or_refuse_at n p (some a) = Done a

-- the refusal where there is a place for it
abbrev pub unless_at : ℕ → Option ℕ → ResultAt (Unit {0})
unless_at n none = Done tt
unless_at n (some p) = RefusedAt n p

-- the refusal without a place where the test fails
abbrev pub unless_so : ℕ → Bool → ResultAt (Unit {0})
unless_so n true = Done tt
unless_so n false = RefusedAt n 0

-- ---- what the caller reads, and what becomes of the lent output

abbrev pub number_at : {A : Type 0} → ResultAt A → ℕ
number_at (Done a) = 0
number_at (RefusedAt n p) = n

-- the place is the one number beside a refusal that is not always zero
abbrev pub place_at : {A : Type 0} → ResultAt A → ℕ
place_at (Done a) = 0
place_at (RefusedAt n p) = p

abbrev pub or_zero_at : {A B : Type 0} → B → (A → B) → ResultAt A → B
or_zero_at z f (Done a) = f a
or_zero_at z f (RefusedAt n p) = z

unfoldable pub lent_after_at : {A : Type 0} → (A → List ℕ) → ResultAt A → List ℕ → List ℕ
lent_after_at bytes (Done a) lent = over (bytes a) lent
lent_after_at bytes (RefusedAt n p) lent = lent
