-- The kinds of record, as the code names them.
use Rattle.std.specs.Prelude.{ℕ, ◌≡◌}
use Rattle.records.specs.declared.kind.Kind.{Kind}
use Rattle.records.specs.declared.kind.Kind.TheVariants.{Article, Price, Rounding, Packaging, Scheme}

-- the byte that its records begin with
abbrev pub byte_of : Kind → ℕ
byte_of Article = 1
byte_of Price = 2
byte_of Rounding = 3
byte_of Packaging = 4
byte_of Scheme = 5

abbrev pub ByteOf : Kind → ℕ → Type 0
ByteOf k n = n ≡ byte_of k
