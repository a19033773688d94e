-- Where something ends, or that there is none: what is said by one relation is said by another that follows from it.
use Prim.Native.Nat.{ℕ}
use mathlib.Core.Path.{◌≡◌}
use Rattle.std.specs.Prelude.{Option, Some, None}
use Rattle.layout.specs.Ends.{EndOrNone}

pub end_as : (P Q : ℕ → Type 0) (o : Option ℕ) → EndOrNone P o → ((r : ℕ) → P r → Q r) → EndOrNone Q o
end_as P Q (Some r) p f = (f r p.0, p.1)
end_as P Q None p f = f 0 p

pub end_none : (P : ℕ → Type 0) (o : Option ℕ) → o ≡ None → P 0 → EndOrNone P o
end_none P o e p = rw e p
