-- What the functions that print ensure.
use Rattle.std.specs.Prelude.{ℕ, List, [], ◌∷◌, ℤ, pos, negsuc}
use Rattle.rules.specs.Letters.{letter}

-- the sign of a number below zero
abbrev pub sign_of : ℤ → List ℕ
sign_of (pos n) = []
sign_of (negsuc n) = letter "-" ∷ []
