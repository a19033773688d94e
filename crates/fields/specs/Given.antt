-- What a definition gives, said of a result that is `Some` or `None`.
use Rattle.std.specs.Prelude.{◌≡◌, Some, None}
use Rattle.std.specs.declared.option.Option.{Option as Returned}
use Rattle.std.proofs.Math.Option.{Option, some, none}

-- it gives this
pub record Gives {A : Type 0} (o : Option A) (a : A) : Type 0 where
  pub is : o ≡ some a

-- or nothing
pub record GivesNone {A : Type 0} (o : Option A) : Type 0 where
  pub is : o ≡ none

-- the result is what it gives
abbrev pub Agrees : {A : Type 0} → Option A → Returned A → Type 0
Agrees o None = GivesNone o
Agrees o (Some a) = Gives o a
