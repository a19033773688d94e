-- The days that are priced: what those of a block share, and how far the outcomes are found.
use Rattle.std.specs.Prelude.{ℕ, ◌≤◌, ◌<◌, ◌≡◌, Bool, true, false, ◌||◌, List, eqb, pos, length, take, get_or}
use Rattle.rules.specs.Calendar.{Outcome, as_outcome, OutcomeIs, outcome, most_days}
use Rattle.rules.specs.Question.{Question}
use Rattle.rules.specs.declared.Outcome as Coded
use Rattle.layout.specs.Records.{records_left}
use Rattle.grants.specs.declared.terms.Terms.{Terms}
use Rattle.grants.specs.Asks.{Asks, terms_on}
use Rattle.survey.specs.declared.window.Window.{Window}
use Rattle.choice.specs.Block.{SharedOn}
use Rattle.outcomes.specs.declared.Block.{Block}

-- ---- a block

-- `r` is behind i, and no further than behind the last day
pub record BlockEnd (i days r : ℕ) : Type 0 where
  pub later : i < r
  pub fits : r ≤ days

-- the block is one of all its dates from position i on
pub record BlockFrom (b : List ℕ) (w : Window) (number table : List ℕ) (terms : Terms) (dates : List ℕ) (i : ℕ) (block : Block) : Type 0 where
  pub on : (j : ℕ) → i ≤ j → j < block.until → SharedOn (take w.spans.rows.last b) w.spans.rows.first number table (terms_on terms (get_or dates j 0)) block.shared

-- and the date at i is one of them
pub record BlockAt (b : List ℕ) (w : Window) (number table : List ℕ) (terms : Terms) (dates : List ℕ) (i : ℕ) (block : Block) : Type 0 where
  pub later : i < block.until
  pub from : BlockFrom b w number table terms dates i block

-- ---- the days

abbrev pub no_outcome : Coded.Outcome
no_outcome = record { unit = record { 0 = pos 0 }; refusal = 0; currency = record { 0 = 0; 1 = 0; 2 = 0 } }

-- the first day is due, and each that is marked
abbrev pub is_due : List Bool → ℕ → Bool
is_due marks i = eqb i 0 || get_or marks i false

-- days that are due have their outcomes
pub record PricedOn (f : ℕ → Outcome) (dates : List ℕ) (marks : List Bool) (outcomes : List Coded.Outcome) : Type 0 where
  pub each : (i : ℕ) → i < length dates → is_due marks i ≡ true → as_outcome (get_or outcomes i no_outcome) ≡ f (get_or dates i 0)

-- `r` is what the day d costs, for every question that asks so
pub record PricedFor (b number table : List ℕ) (terms : Terms) (d : ℕ) (r : Coded.Outcome) : Type 0 where
  pub of : (q : Question) → Asks q number table terms → OutcomeIs (outcome (records_left b 5) q d) r

-- no position from i to before `r` has a mark
pub record NextDue (marks : List Bool) (i r : ℕ) : Type 0 where
  pub low : i ≤ r
  pub none_due : (j : ℕ) → i ≤ j → j < r → get_or marks j false ≡ false

pub record OutcomesFor (b number table : List ℕ) (terms : Terms) (dates : List ℕ) (marks : List Bool) (outcomes : List Coded.Outcome) : Type 0 where
  pub of : (q : Question) → Asks q number table terms → PricedOn (outcome (records_left b 5) q) dates marks outcomes

-- the days before position i that are due have their outcomes; those from i on are still to come
pub record Pricing (b : List ℕ) (w : Window) (number table : List ℕ) (terms : Terms) (dates : List ℕ) (marks : List Bool) (block : Block) (outcomes : List Coded.Outcome) (i : ℕ) : Type 0 where
  pub few : length dates ≤ most_days
  pub long : length outcomes ≡ most_days
  pub hand : BlockFrom b w number table terms dates i block
  pub of : (q : Question) → Asks q number table terms → (j : ℕ) → j < i → j < length dates → is_due marks j ≡ true → as_outcome (get_or outcomes j no_outcome) ≡ outcome (records_left b 5) q (get_or dates j 0)
