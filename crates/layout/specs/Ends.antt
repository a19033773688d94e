-- What a function says that finds where something ends: the position, or none.
use Rattle.std.specs.Prelude.{ℕ, ◌<◌, Option, Some, None}

-- what `ends` says of a position, where 0 is none
abbrev pub EndOrNone : (ℕ → Type 0) → Option ℕ → Type 0
EndOrNone ends (Some r) = ends r × (0 < r)
EndOrNone ends None = ends 0
