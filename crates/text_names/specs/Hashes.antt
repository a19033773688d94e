-- The name in a field, and its hash.
use Rattle.std.specs.Prelude.{ℕ, ◌+◌, ◌*◌, ◌%◌, ◌≤◌, ◌<◌, ◌≡◌, List, [], true, cond, eqb, fold, length, drop}
use Rattle.rules.specs.Lists.{is_some, if_some}
use Rattle.file_rules.specs.Fields.{field}

-- the name in the field that starts there
unfoldable pub name_from : List ℕ → ℕ → List ℕ
name_from file start = if_some (field (drop start file)) [] (λ p. p.0)

pub record StartsName (file : List ℕ) (start : ℕ) : Type 0 where
  pub fits : start ≤ length file
  pub good : is_some (field (drop start file)) ≡ true

-- any hash will do: no law of the chains opens it. Quotes do not count, so that a text and its bytes between quotes have one hash
abbrev pub add_byte : ℕ → ℕ → ℕ
add_byte n b = cond (eqb 34 b) n ((n * 31 + b) % 65536)

unfoldable pub hash_of : List ℕ → ℕ
hash_of s = fold add_byte 0 s

-- `h` is its hash
pub record Hashed (x : List ℕ) (h : ℕ) : Type 0 where
  pub is : h ≡ hash_of x
  pub below : h < 65536
