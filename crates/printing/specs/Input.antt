-- The parts of the program's input.
use Rattle.std.specs.Prelude.{ℕ, ◌^◌, ◌≤◌, ◌<◌, ◌≡◌, List, length, take, drop}
use Rattle.rules.specs.Bytes.{big, own_length}

-- the first i of at most four bytes make the number n
pub record Reading (s : List ℕ) (n i : ℕ) : Type 0 where
  pub place : i ≤ length s
  pub few : length s ≤ 4
  pub is : n ≡ big (take i s)
  pub small : n < 256 ^ i

-- at `r` the part in front ends
pub record FrontIs (s : List ℕ) (r : ℕ) : Type 0 where
  pub fits : r ≤ length s
  pub front : take r s ≡ take (own_length s) s
  pub rest : drop r s ≡ drop (own_length s) s
