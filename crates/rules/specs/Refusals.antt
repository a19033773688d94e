-- "Numbers a caller can get": an answer, or the number of the refusal. A `do` block of these stops at its first refusal, so its lines are the call's order.
--
--    1  the book, or one of two text books, is none           7  what would be written is longer than the lent output
--    2  the question is none                                  8  the article has no unconditioned packaging
--    3  the book has no record of the article                 9  the period ends on no day, before it starts, or is too long
--    4  there is no base line                                10  unused: no call gives it
--    5  a fixed line is not in the base currency             11  packaging units clash, or a value falls below zero
--    6  the running total leaves its range                   12  neither text book has the number
use Rattle.std.specs.Prelude.{ℕ, Bool, true, false, List, ◌++◌, length, drop}
use Rattle.std.proofs.Math.Option.{Option, some, none}

pub data Result (A : Type 0) : Type 0 where
  done : A → Result A
  refused : ℕ → Result A

infixl 20 ◌>>=◌
abbrev pub ◌>>=◌ : {A B : Type 0} → Result A → (A → Result B) → Result B
◌>>=◌ (done a) f = f a
◌>>=◌ (refused n) f = refused n

-- the value, or else the refusal
abbrev pub or_refuse : {A : Type 0} → ℕ → Option A → Result A
or_refuse n none = refused n
or_refuse n (some a) = done a

-- the refusal where the test fails
abbrev pub refuse_unless : ℕ → Bool → Result (Unit {0})
refuse_unless n true = done tt
refuse_unless n false = refused n

-- ---- what the caller reads, and what becomes of the lent output

abbrev pub number_of : {A : Type 0} → Result A → ℕ
number_of (done a) = 0
number_of (refused n) = n

-- a part of the answer, or its zero beside a refusal
abbrev pub or_zero : {A B : Type 0} → B → (A → B) → Result A → B
or_zero z f (done a) = f a
or_zero z f (refused n) = z

-- what is new over the front of what was there; the rest stays
abbrev pub over : {B : Type 0} → List B → List B → List B
over new old = new ++ drop (length new) old

-- what the call writes goes over the front; a refused call writes nothing
unfoldable pub lent_after : {A B : Type 0} → (A → List B) → Result A → List B → List B
lent_after bytes (done a) lent = over (bytes a) lent
lent_after bytes (refused n) lent = lent
