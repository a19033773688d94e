-- A price record as it is handed from function to function.
use Rattle.std.specs.Prelude.{ℕ, ◌≡◌, ◌≢◌, List, get_or, Option, Some, None}
use Rattle.price_text.specs.declared.Named.{Named}

abbrev pub NamedIs : List ℕ → Option Named → Type 0
NamedIs t (Some r) = r.bytes.now ≡ t
NamedIs t None = get_or t 0 0 ≢ 2
