-- The words of a list by their numbers, and the blanks of a text.
use Rattle.std.specs.Prelude.{ℕ, zero, suc, ◌≤◌, ◌<◌, ◌≡◌, true, false, List, [], ◌∷◌, length, get_or}
use Rattle.rules.specs.Lists.{all}
use Rattle.relation_rules.specs.Grammar.{is_blank}
use Rattle.layout.specs.Reads.{part}

-- the word with a number, counted from 1
abbrev pub word_of : List (List ℕ) → ℕ → List ℕ
word_of [] k = []
word_of (w ∷ ws) zero = []
word_of (w ∷ ws) (suc zero) = w
word_of (w ∷ ws) (suc (suc k)) = word_of ws (suc k)

-- from `at` to r all are blanks, and at r is none
pub record Gap (s : List ℕ) (at r : ℕ) : Type 0 where
  pub on : at ≤ r
  pub most : r ≤ length s
  pub blanks : all is_blank (part s at r) ≡ true
  pub next : r < length s → is_blank (get_or s r 0) ≡ false
