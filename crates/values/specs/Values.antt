-- The values behind a base number, each with the separator in front of it.
use Rattle.std.specs.Prelude.{ℕ, zero, suc, ◌+◌, Bool, true, false, List, [], ◌∷◌, ◌++◌, replicate}
use Rattle.std.proofs.Math.Option.{Option, some, none}
use Rattle.rules.specs.Lists.{gather}
use Rattle.rules.specs.Book.{Scheme}
use Rattle.rules.specs.BookLayout.{hidden_byte, unselected_byte}
use Rattle.rules.specs.Question.{Property}
use Rattle.rules.specs.FinalNumber.{padded, shown_of, separator_of}
use Rattle.records.specs.declared.schemes.SchemeParts.{SchemeParts}

-- the separator in front of the first value, and in front of any other
abbrev pub before : Scheme → Bool → List ℕ
before s true = separator_of s.number_separator
before s false = s.value_separator

-- a separator of 8 bytes and a value of 30: no property brings more
abbrev pub most : ℕ
most = 8 + 30

-- what a property brings: nothing, or a value and the separator in front of it
abbrev pub led : Scheme → Bool → Option (List ℕ) → List ℕ
led s first none = []
led s first (some v) = before s first ++ v

abbrev pub brought : Scheme → Bool → Property → List ℕ
brought s first p = led s first (shown_of s p)

-- and all of them behind a base number
unfoldable pub led_all : Scheme → Bool → List (List ℕ) → List ℕ
led_all s first [] = []
led_all s first (v ∷ vs) = (before s first ++ v) ++ led_all s false vs

abbrev pub brought_all : Scheme → List Property → List ℕ
brought_all s ps = led_all s true (gather (shown_of s) ps)

-- what a property shows by its state, where it shows something
abbrev pub by_state : SchemeParts → ℕ → Property → List ℕ
by_state s zero p = padded s.trim p.width p.value
by_state s (suc zero) p = replicate p.width (hidden_byte s.hidden)
by_state s (suc (suc state)) p = replicate p.width (unselected_byte s.unselected)

unfoldable pub value_bytes : SchemeParts → Property → List ℕ
value_bytes s p = by_state s p.state p
