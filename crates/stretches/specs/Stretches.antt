-- The stretches as the code keeps them, and how far the days have gone by.
use Rattle.std.specs.Prelude.{ℕ, ◌+◌, ◌-◌, ◌≤◌, ◌<◌, ◌≡◌, Bool, true, false, cond, List, ◌++◌, map, pos, length, take, drop, get_or}
use Rattle.rules.specs.Calendar.{Outcome, as_outcome, Stretch, same_outcome, stretches, most_days}
use Rattle.rules.specs.Question.{currency_of}
use Rattle.rules.specs.declared.Outcome as Coded
use Rattle.rules.proofs.WalkLaws as Walk
use Rattle.outcomes.specs.Outcomes.{PricedOn}
use Rattle.stretches.specs.declared.Stretch as Declared
use Rattle.stretches.specs.declared.Stretches.{Stretches}
use Rattle.stretches.specs.declared.turns.Turning.{Turning}
use Rattle.stretches.specs.declared.turns.Turning.TheVariants.{Grown, Begun}

-- the definition's stretch, of one in the code
abbrev pub as_stretch : Declared.Stretch → Stretch
as_stretch r = record { first = r.first.0; last = r.last.0; outcome = as_outcome r.outcome }

-- the stretch in the code, of one in the definitions: the record that is handed over
abbrev pub record_of : Stretch → Declared.Stretch
record_of s =
    record {
      first = record { 0 = s.first };
      last = record { 0 = s.last };
      outcome = record {
        unit = record { 0 = s.outcome.unit };
        refusal = s.outcome.refusal;
        currency = currency_of s.outcome.currency;
      };
    }

abbrev pub no_stretch : Declared.Stretch
no_stretch =
    record {
      first = record { 0 = 0 };
      last = record { 0 = 0 };
      outcome = record { unit = record { 0 = pos 0 }; refusal = 0; currency = record { 0 = 0; 1 = 0; 2 = 0 } };
    }

-- ---- a day more

-- `r` is the stretch of the day d alone, which has this outcome
pub record Opened (o : Coded.Outcome) (d : ℕ) (r : Declared.Stretch) : Type 0 where
  pub is : as_stretch r ≡ Walk.opened d (as_outcome o)

-- `r` is the stretch grown to the day d
pub record Longer (hand : Declared.Stretch) (d : ℕ) (r : Declared.Stretch) : Type 0 where
  pub is : as_stretch r ≡ record { first = hand.first.0; last = d; outcome = as_outcome hand.outcome }

-- a day that is not due has the outcome in hand, and one that is has this
pub record Told (f : ℕ → Outcome) (hand : Declared.Stretch) (d : ℕ) (due : Bool) (o : Coded.Outcome) : Type 0 where
  pub stays : due ≡ false → as_outcome hand.outcome ≡ f d
  pub priced : due ≡ true → as_outcome o ≡ f d

-- the stretch in hand, and 1 if it begins on the day, else 0
abbrev pub in_hand : Turning → Declared.Stretch
in_hand (Grown r) = r
in_hand (Begun r) = r

abbrev pub fresh : Turning → ℕ
fresh (Grown r) = 0
fresh (Begun r) = 1

pub record Turned (f : ℕ → Outcome) (hand : Declared.Stretch) (d : ℕ) (r : Turning) : Type 0 where
  pub fresh_is : fresh r ≡ cond (same_outcome (as_outcome hand.outcome) (f d)) 0 1
  pub is : as_stretch (in_hand r) ≡ Walk.turned (as_stretch hand) d (f d)

-- whatever the outcomes of days are, as long as these are told
pub record TurnedBy (hand : Declared.Stretch) (d : ℕ) (due : Bool) (o : Coded.Outcome) (r : Turning) : Type 0 where
  pub of : (f : ℕ → Outcome) → Told f hand d due o → Turned f hand d r

-- ---- all days

-- there is a day, and of the others each that is not marked has the outcome of the day before it
pub record Marked (f : ℕ → Outcome) (dates : List ℕ) (marks : List Bool) : Type 0 where
  pub some_day : 0 < length dates
  pub few : length dates ≤ most_days
  pub stays : (i : ℕ) → i + 1 < length dates → get_or marks (i + 1) false ≡ false → f (get_or dates i 0) ≡ f (get_or dates (i + 1) 0)

-- so the outcome of every day is known
pub record Known (f : ℕ → Outcome) (dates : List ℕ) (marks : List Bool) (outcomes : List Coded.Outcome) : Type 0 where
  pub marked : Marked f dates marks
  pub priced : PricedOn f dates marks outcomes

-- `r` lists these stretches, and none behind them
pub record Lists (ss : List Stretch) (r : Stretches) : Type 0 where
  pub long : length r.list ≡ most_days
  pub few : r.n ≤ most_days
  pub is : map as_stretch (take r.n r.list) ≡ ss
  pub behind : (i : ℕ) → r.n ≤ i → get_or r.list i no_stretch ≡ no_stretch

-- the days before i have gone by: the stretches before n are closed, that at n is in hand, and the days from i on are still to come
pub record Going (f : ℕ → Outcome) (dates : List ℕ) (marks : List Bool) (list : List Declared.Stretch) (n i : ℕ) : Type 0 where
  pub marked : Marked f dates marks
  pub low : 1 ≤ i
  pub place : n < i
  pub most : i ≤ length dates
  pub long : length list ≡ most_days
  pub behind : (i : ℕ) → n < i → get_or list i no_stretch ≡ no_stretch
  pub hand : as_outcome (get_or list n no_stretch).outcome ≡ f (get_or dates (i - 1) 0)
  pub goes : map as_stretch (take n list) ++ Walk.walked f (as_stretch (get_or list n no_stretch)) (drop i dates) ≡ stretches f dates

-- ---- whatever the outcomes of days are, as long as they are known

pub record ListsBy (dates : List ℕ) (marks : List Bool) (outcomes : List Coded.Outcome) (r : Stretches) : Type 0 where
  pub few : r.n ≤ most_days
  pub of : (f : ℕ → Outcome) → Known f dates marks outcomes → Lists (stretches f dates) r

-- the days before i have gone by
pub record GoingBy (dates : List ℕ) (marks : List Bool) (outcomes : List Coded.Outcome) (list : List Declared.Stretch) (n i : ℕ) : Type 0 where
  pub few : length dates ≤ most_days
  pub low : 1 ≤ i
  pub place : n < i
  pub most : i ≤ length dates
  pub long : length list ≡ most_days
  pub of : (f : ℕ → Outcome) → Known f dates marks outcomes → Going f dates marks list n i
