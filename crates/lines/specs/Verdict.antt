-- What is said of the chosen rows: their price, or the refusal.
use Rattle.std.specs.Prelude.{ℕ, ◌≤◌, ◌≡◌, cond, List, pos, nat_abs, get_or, replicate}
use Rattle.rules.specs.Lists.{first, if_some}
use Rattle.rules.specs.Book.{Record}
use Rattle.rules.specs.Question.{Question, no_currency, letters_of}
use Rattle.rules.specs.Lines.{lines_of, lines_bytes, total, most_total, total_of}
use Rattle.rules.specs.Refusals.{done, refused}
use Rattle.rules.specs.Price.{priced}
use Rattle.rules.specs.Calendar.{Outcome, OutcomeIs}
use Rattle.rules.specs.declared.Total.{Total}
use Rattle.rules.specs.declared.Total.TheVariants.{InRange, OutOfRange}
use Rattle.lines.specs.declared.Pick.{Pick}
use Rattle.lines.specs.declared.verdict.Verdict.{Verdict}
use Rattle.lines.specs.Views.{View, views_in, views_bytes, is_base, one_currency, amounts_of, amounts_in, no_cents}
use Rattle.lines.specs.Ensures.{StandFor, most_amount}

-- the number, and zeros
abbrev pub refused_by : ℕ → Verdict
refused_by number =
    record {
      outcome = record { unit = no_cents; refusal = number; currency = record { 0 = 0; 1 = 0; 2 = 0 } };
      amounts = replicate 99 no_cents;
    }

-- ---- what the definitions say of views

abbrev pub no_price : ℕ → Outcome
no_price number = record { refusal = number; currency = no_currency; unit = pos 0 }

abbrev pub price_if : List ℕ → Total → Outcome
price_if currency (InRange c) = record { refusal = 0; currency = currency; unit = c.0 }
price_if currency OutOfRange = no_price 6

-- no base line, two currencies, a total out of range, or the price
unfoldable pub judged : List View → Outcome
judged vs =
    if_some (first is_base vs) (no_price 4) λ v. cond (one_currency v.currency vs) (price_if v.currency (total_of (amounts_of vs))) (no_price 5)

-- ---- and for a question

-- the price of a question: its lines, what they come to and their bytes
pub record PricedAt (book : List Record) (q : Question) (picks : List Pick) (n : ℕ) (r : Verdict) : Type 0 where
  pub is : priced book q ≡ done (record { lines = lines_of book q; currency = letters_of r.outcome.currency })
  pub unit : total (lines_of book q) ≡ r.outcome.unit.0
  pub bytes : lines_bytes (lines_of book q) ≡ views_bytes (views_in picks n) (amounts_in r.amounts n)

-- or that it has none
pub record RefusedAt (book : List Record) (q : Question) (r : Verdict) : Type 0 where
  pub is : priced book q ≡ refused r.outcome.refusal
  pub zeros : r ≡ refused_by r.outcome.refusal

-- `r` says that, with the amounts of the lines and zeros behind them; so it is for every question that the picks stand for
pub record VerdictIs (picks : List Pick) (n : ℕ) (r : Verdict) : Type 0 where
  pub each_in : (i : ℕ) → nat_abs (get_or r.amounts i no_cents).0 ≤ most_amount
  pub unit_in : nat_abs r.outcome.unit.0 ≤ most_total
  pub is : OutcomeIs (judged (views_in picks n)) r.outcome
  pub amounts : r.outcome.refusal ≡ 0 → amounts_in r.amounts n ≡ amounts_of (views_in picks n)
  pub behind : (i : ℕ) → n ≤ i → get_or r.amounts i no_cents ≡ no_cents
  pub zeros : (r.outcome.refusal ≡ 0 → ⊥) → r ≡ refused_by r.outcome.refusal
  pub answered : r.outcome.refusal ≡ 0 → (book : List Record) (q : Question) → StandFor book q picks n → PricedAt book q picks n r
  pub refuses : (r.outcome.refusal ≡ 0 → ⊥) → (book : List Record) (q : Question) → StandFor book q picks n → RefusedAt book q r
