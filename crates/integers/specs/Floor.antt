-- The quotient of a whole number by a natural one, rounded down. What it means is proved in proofs/FloorLaws.antt.
use Rattle.std.specs.Prelude.{ℕ, ◌/◌, ℤ, pos, negsuc}

-- the quotient of z by d, rounded down
unfoldable pub floor : ℤ → ℕ → ℤ
floor (pos a) d = pos (a / d)
floor (negsuc a) d = negsuc (a / d)
