-- What a caller reads in the output of a basket: of each question the answer and the lines that the price call gives for it alone.
use Rattle.std.specs.Prelude.{ℕ, ◌+◌, ◌*◌, ◌≤◌, ◌<◌, ◌≡◌, List, [], map, length, take, drop, get_or}
use Rattle.rules.specs.Lists.{join}
use Rattle.rules.specs.Lines.{line_size, most_lines_size}
use Rattle.rules.specs.Price.{price}
use Rattle.rules.specs.Basket.{answer_size, answer_bytes, lines_in}
use Rattle.rules.specs.declared.PriceAnswer.{PriceAnswer}
use Rattle.price.specs.Call.{PriceIs}

-- the bytes of the lines of the questions before one
abbrev pub lines_before : List ℕ → List (List ℕ) → ℕ → ℕ
lines_before b parts j = length (join (take j (map (λ p. lines_in (price b p most_lines_size)) parts)))

-- where the answer of question j of n belongs stands this one, and behind all answers and the lines before them stand these lines
pub record StandsFor (after : List ℕ) (n before j : ℕ) (a : PriceAnswer) (own : List ℕ) : Type 0 where
  pub answer : take answer_size (drop (answer_size * j) after) ≡ answer_bytes a
  pub lines : take (line_size * a.lines) (drop (answer_size * n + before) after) ≡ take (line_size * a.lines) own

-- s is parted into questions, and for each of them stands in the output what the price call gives for it alone, with any output that is long enough
pub record EachPriced (b s after : List ℕ) : Type 0 where
  pub parts : List (List ℕ)
  pub laid : join parts ≡ s
  pub each : (j : ℕ) → j < length parts → (lent : List ℕ) → most_lines_size ≤ length lent → {a : PriceAnswer} {lines : List ℕ} → PriceIs b (get_or parts j []) lent a lines
      → StandsFor after (length parts) (lines_before b parts j) j a lines
