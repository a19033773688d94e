-- The parts of a price record that is written for a line.
use Rattle.std.specs.Prelude.{ℕ, ◌+◌, ◌-◌, ◌≤◌, ◌<◌, List, [], ◌∷◌, ◌++◌, cond, leb, length}
use Rattle.rules.specs.Bytes.{bytes_of}
use Rattle.rules.specs.RowBytes.{value_bytes}
use Rattle.fields.specs.declared.field.Field.{Field}
use Rattle.fields.specs.Field.{TextIs}
use Rattle.figures.specs.Figures.{letters_of}
use Rattle.price_line.specs.Line.{Worth}
use Rattle.price_line.specs.declared.Kinds.{Kinds}
use Rattle.price_line.specs.declared.Span.{Span}
use Rattle.price_line.specs.declared.PriceLine.{PriceLine}

abbrev pub head_bytes : ℕ → List ℕ
head_bytes n = bytes_of 2 n ++ (2 ∷ [])

abbrev pub kind_bytes : Kinds → ℕ → List ℕ
kind_bytes k text = k.sort ∷ k.level ∷ (k.rule - 48) ∷ bytes_of 4 text

abbrev pub span_bytes : Span → List ℕ
span_bytes s = bytes_of 4 s.from ++ (bytes_of 4 s.to ++ (bytes_of 4 s.upto ++ bytes_of 2 0))

abbrev pub flag_bit : ℕ → ℕ
flag_bit flag = cond (leb flag 48) 0 1

-- all that stands behind the names
abbrev pub term_bytes : PriceLine → ℕ → List ℕ
term_bytes r text =
    kind_bytes r.kinds text ++ (value_bytes (Worth r.priced.flag r.priced.amount) ++ (letters_of r.currency ++ span_bytes r.span))

-- room for a name behind its length, and for all that stands behind the names
pub record NameRoom (out : List ℕ) (at : ℕ) (line : List ℕ) (f : Field) : Type 0 where
  pub room : at + 1 + f.count ≤ length out
  pub short : f.count < 256
  pub text : TextIs line f

pub record TermRoom (out : List ℕ) (at : ℕ) : Type 0 where
  pub room : at + 29 ≤ length out

-- a good line, with room for its record
pub record ToPut (line : List ℕ) (r : PriceLine) (out : List ℕ) (at : ℕ) : Type 0 where
  pub article : TextIs line r.article
  pub condition : TextIs line r.condition
  pub short : r.article.count ≤ 40
  pub narrow : r.condition.count ≤ 20
  pub room : at + 34 + r.article.count + r.condition.count ≤ length out
