-- Dates in order.
use Rattle.std.specs.Prelude.{ℕ, ◌+◌, ◌≤◌, ◌<◌, ◌≡◌, true, List, length, get_or}
use Rattle.rules.specs.Days.{is_day, next}
use Rattle.rules.specs.Calendar.{most_days}

-- days, each the next of the one before it
pub record Dates (dates : List ℕ) : Type 0 where
  pub few : length dates ≤ most_days
  pub each_day : (i : ℕ) → i < length dates → is_day (get_or dates i 0) ≡ true
  pub follow : (i : ℕ) → i + 1 < length dates → get_or dates (i + 1) 0 ≡ next (get_or dates i 0)
  pub ascending : (i j : ℕ) → i < j → j < length dates → get_or dates i 0 < get_or dates j 0
