-- What a price record of an article starts with, and what that ends in.
use Rattle.std.specs.Prelude.{ℕ, ◌≡◌, List, ◌∷◌, length, take, drop}
use Rattle.rules.specs.Bytes.{big}

-- its kind, the length of the article's number, the number ("The price book": names, and price rows)
abbrev pub row_start : List ℕ → List ℕ
row_start article = 2 ∷ (length article ∷ article)

-- the last two bytes of that as a number
abbrev pub ending : List ℕ → ℕ
ending article = big (take 2 (drop (length article) (row_start article)))

pub record EndingIs (article : List ℕ) (r : ℕ) : Type 0 where
  pub is : r ≡ ending article
