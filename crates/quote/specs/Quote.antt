-- What a quote says, for every question that asks so.
use Rattle.std.specs.Prelude.{ℕ, List, map}
use Rattle.rules.specs.Question.{Granted, Question}
use Rattle.rules.specs.Calendar.{OutcomeIs, outcome}
use Rattle.rules.specs.declared.Outcome.{Outcome}
use Rattle.layout.specs.Records.{records_left}
use Rattle.grants.specs.declared.terms.Terms.{Terms}
use Rattle.grants.specs.Table.{GrantsAre}
use Rattle.grants.specs.Asks.{Asks}
use Rattle.grants.specs.Idle.{UnusedIs}
use Rattle.lines.specs.Views.{views_in}
use Rattle.lines.specs.Verdict.{VerdictIs}
use Rattle.quote.specs.declared.Quote.{Quote}
use Rattle.picks.specs.Picks.{PickedAre}

-- the set of those of the names that the table is of which brought none of the lines with these places
pub record UnusedFor (table places : List ℕ) (set : ℕ) : Type 0 where
  pub of : (names : List Granted) → GrantsAre names table → UnusedIs names places set

-- the rows are those that the definition chooses, and what is said of them and of the granted names is so
pub record Quoted (b : List ℕ) (q : Question) (r : Quote) : Type 0 where
  pub picked : PickedAre b q r.picks.rows r.picks.n
  pub judged : VerdictIs r.picks.rows r.picks.n r.verdict
  pub idle : UnusedIs q.granted (map (λ v. v.place) (views_in r.picks.rows r.picks.n)) r.unused.0

pub record QuoteIs (b number table : List ℕ) (terms : Terms) (r : Quote) : Type 0 where
  pub of : (q : Question) → Asks q number table terms → Quoted b q r

-- the outcome of the question's day
pub record OutcomeFor (b number table : List ℕ) (terms : Terms) (r : Outcome) : Type 0 where
  pub of : (q : Question) → Asks q number table terms → OutcomeIs (outcome (records_left b 5) q q.date) r
