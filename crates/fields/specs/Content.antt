-- What functions that copy the text of a field ask and ensure.
use Rattle.std.specs.Prelude.{ℕ, ◌-◌, ◌≤◌, ◌≡◌, List, cond, eqb, ltb, length, drop}
use Rattle.std.proofs.Math.Option.{some}
use Rattle.file_rules.specs.Fields.{inside}
use Rattle.layout.specs.Ensures.{PutsTo}
use Rattle.fields.specs.declared.field.Field.{Field}
use Rattle.fields.specs.Field.{inside_text}

-- behind an opening quote stands a text of so many bytes
pub record InnerText (line : List ℕ) (from count : ℕ) : Type 0 where
  pub text : List ℕ
  pub rest : List ℕ
  pub is : inside (drop from line) ≡ some (text, rest)
  pub long : length text ≡ count
  pub low : from ≤ length line

pub record Step (byte r : ℕ) : Type 0 where
  pub is : r ≡ cond (eqb byte 34) 2 1
  pub few : r ≤ 2

pub record StepIn (f : Field) (byte r : ℕ) : Type 0 where
  pub is : r ≡ cond (ltb f.count (f.to - f.from)) (cond (eqb byte 34) 2 1) 1
  pub few : r ≤ 2

pub record PutsInner (old : List ℕ) (at : ℕ) (line : List ℕ) (from : ℕ) (new : List ℕ) (r : ℕ) : Type 0 where
  pub puts : PutsTo old at (inside_text (drop from line)) new r
