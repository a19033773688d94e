-- What a period read day by day is, and how far the days have been stepped through.
use Rattle.std.specs.Prelude as Std
use Rattle.std.specs.Prelude.{ℕ, ◌-◌, ◌≤◌, ◌<◌, ◌≡◌, true, List, ◌++◌, length, take, get_or, Some, None}
use Rattle.std.proofs.Math.Option.{Option, some, none}
use Rattle.rules.specs.Days.{is_day, days_to}
use Rattle.rules.specs.Calendar.{period_to, most_days}
use Rattle.period.specs.declared.dates.Period.{Period}

-- `p` has the days of the period in front; behind them stand zeros
pub record DaysOf (start end : ℕ) (p : Period) : Type 0 where
  pub long : length p.dates ≡ most_days
  pub some_day : 0 < p.n
  pub is : period_to start end ≡ some (take p.n p.dates)
  pub behind : (i : ℕ) → p.n ≤ i → get_or p.dates i 0 ≡ 0

-- `r` has them, or there is no such period
abbrev pub PeriodIs : ℕ → ℕ → Std.Option Period → Type 0
PeriodIs start end None = period_to start end ≡ none
PeriodIs start end (Some p) = DaysOf start end p

-- days, and then others
abbrev pub behind : List ℕ → Option (List ℕ) → Option (List ℕ)
behind xs none = none
behind xs (some ys) = some (xs ++ ys)

-- n days are written down, d is the next, and those from it on are still to come
pub record Counting (start end : ℕ) (dates : List ℕ) (d n : ℕ) : Type 0 where
  pub end_day : is_day end ≡ true
  pub order : start ≤ end
  pub is_day_lem : is_day d ≡ true
  pub low : d ≤ end
  pub most : n ≤ most_days
  pub long : length dates ≡ most_days
  pub empty : (i : ℕ) → n ≤ i → get_or dates i 0 ≡ 0
  pub is : days_to most_days start end ≡ behind (take n dates) (days_to (most_days - n) d end)
