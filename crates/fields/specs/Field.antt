-- What functions over the fields of a line ensure.
use Rattle.std.specs.Prelude.{ℕ, ◌+◌, ◌-◌, ◌≤◌, ◌<◌, ◌≡◌, ◌⊎◌, List, [], Bool, true, false, not, cond, eqb, ltb, length, drop, get_or}
use Rattle.std.proofs.Math.Option.{some}
use Rattle.rules.specs.Lists.{all, any, keep, if_some}
use Rattle.rules.specs.Bytes.{name_byte}
use Rattle.file_rules.specs.Fields.{quote, starts_with, inside, cut, past_spaces, field, next_field}
use Rattle.layout.specs.Reads.{Reads, part}
use Rattle.fields.specs.declared.field.Field.{Field}
use Rattle.fields.specs.declared.field.Closed.{Closed}

abbrev pub other_byte : ℕ → Bool
other_byte b = not (eqb quote b)

-- a text and the bytes that it stands for: they are the same, or quotes in the bytes stand twice
pub record Doubled (text bytes : List ℕ) : Type 0 where
  pub quotes : any (eqb quote) text ≡ true
  pub double : any (eqb quote) bytes ≡ true
  pub shorter : length text < length bytes
  pub others : keep other_byte text ≡ keep other_byte bytes

abbrev pub Stands : List ℕ → List ℕ → Type 0
Stands text bytes = (text ≡ bytes) ⊎ Doubled text bytes

-- the quoted field that goes on at `at`, and its closing quote
pub record Closing (line : List ℕ) (at : ℕ) (r : Closed) : Type 0 where
  pub text : List ℕ
  pub is : inside (drop at line) ≡ some (text, drop (r.to + 1) line)
  pub low : at ≤ r.to
  pub within : r.to < length line
  pub count : length text ≡ r.count
  pub names : all name_byte text ≡ all name_byte (part line at r.to)
  pub stands : Stands text (part line at r.to)

-- before such a byte stands what is from `at` to `r`
pub record CutAt (byte : ℕ) (line : List ℕ) (at r : ℕ) : Type 0 where
  pub is : cut byte (drop at line) ≡ (part line at r, drop r line)
  pub low : at ≤ r
  pub fits : r ≤ length line

pub record PastSpaces (line : List ℕ) (at r : ℕ) : Type 0 where
  pub is : past_spaces (drop at line) ≡ drop r line
  pub fits : r ≤ length line

-- at `at` starts a field without quotes around it, or one with them
pub record Bare (line : List ℕ) (at : ℕ) : Type 0 where
  pub fits : at ≤ length line
  pub bare : starts_with quote (drop at line) ≡ false

pub record Opened (line : List ℕ) (at : ℕ) : Type 0 where
  pub fits : at < length line
  pub quoted : get_or line at 0 ≡ 34

-- ---- a field

abbrev pub inside_text : List ℕ → List ℕ
inside_text s = if_some (inside s) [] (λ p. p.0)

-- its text
unfoldable pub text_of : List ℕ → Field → List ℕ
text_of line f = cond (ltb f.count (f.to - f.from)) (inside_text (drop f.from line)) (part line f.from f.to)

-- where it stands, and what is known of its text
pub record TextIs (line : List ℕ) (f : Field) : Type 0 where
  pub low : f.from ≤ f.to
  pub fits : f.to ≤ length line
  pub next_fits : f.next ≤ length line
  pub count : length (text_of line f) ≡ f.count
  pub names : all name_byte (text_of line f) ≡ all name_byte (part line f.from f.to)
  pub stands : Stands (text_of line f) (part line f.from f.to)
  pub closes : f.count < f.to - f.from → (rest : List ℕ) × (inside (drop f.from line) ≡ some (text_of line f, rest))

-- the field that starts at `at`, and the one behind the semicolon at `at`
pub record FieldIs (line : List ℕ) (at : ℕ) (f : Field) : Type 0 where
  pub reads : Reads field line at true (text_of line f) f.next
  pub text : TextIs line f

pub record NextIs (line : List ℕ) (at : ℕ) (f : Field) : Type 0 where
  pub reads : Reads next_field line at true (text_of line f) f.next
  pub text : TextIs line f
