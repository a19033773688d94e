-- What the functions over chosen rows ask and give.
use Rattle.std.specs.Prelude.{ℕ, ◌+◌, ◌*◌, ◌≤◌, ◌≡◌, Bool, true, cond, List, map, ltb, ℤ, nat_abs, length, get_or, replicate}
use Rattle.rules.specs.Lists.{first}
use Rattle.rules.specs.BookLayout.{in_bounds}
use Rattle.rules.specs.Book.{Record, rows, roundings}
use Rattle.rules.specs.Question.{Question, most_factor}
use Rattle.rules.specs.Lines.{chosen, most_total, total_of, line_size}
use Rattle.rules.specs.Amounts.{SoundRounding}
use Rattle.rules.specs.declared.Cents.{Cents}
use Rattle.rules.specs.declared.Total.TheVariants.{InRange, OutOfRange}
use Rattle.rules.proofs.ListLaws.{All}
use Rattle.layout.specs.Reads.{only}
use Rattle.layout.specs.Ensures.{Says}
use Rattle.lines.specs.declared.Pick.{Pick}
use Rattle.lines.specs.declared.Listed.{Listed}
use Rattle.lines.specs.Views.{View, view_of, view_in, views_in, no_pick, is_base, base_first, one_currency, amount_on, amounts_of, amounts_in, no_cents}

-- the first n picks are the chosen rows of a question, with their roundings looked up
pub record StandFor (book : List Record) (q : Question) (picks : List Pick) (n : ℕ) : Type 0 where
  pub is : views_in picks n ≡ map (view_of (roundings book)) (chosen (rows book) q)

-- ---- base and currency

-- `r` says which of the first n is the first base row, from 0, or n
pub record FirstBase (picks : List Pick) (n r : ℕ) : Type 0 where
  pub is : first is_base (views_in picks n) ≡ only (ltb r n) (view_in (get_or picks r no_pick))
  pub within : r ≤ n

pub record OneOfTwo (test : Bool) (first second r : ℤ) : Type 0 where
  pub is : r ≡ cond test first second

-- ---- amounts

-- a row as a book may have it, with its rounding, and a factor as a question may have it
pub record Sound (v : View) : Type 0 where
  pub value_in : in_bounds v.value ≡ true
  pub factor_in : v.factor ≤ most_factor
  pub rounding_in : SoundRounding v.rounding

-- and totals that are in range
pub record LineOn (v : View) (base total : ℤ) : Type 0 where
  pub sound : Sound v
  pub base_in : nat_abs base ≤ most_total
  pub total_in : nat_abs total ≤ most_total

-- an amount that a book's values and roundings and a question's factors can come to
abbrev pub most_amount : ℕ
most_amount = 1_000_000_000_003_000_000

pub record LineAmount (v : View) (base total : ℤ) (r : Cents) : Type 0 where
  pub is : r.0 ≡ amount_on base total v
  pub near : nat_abs r.0 ≤ most_amount

pub record Listable (picks : List Pick) (n : ℕ) : Type 0 where
  pub few : n ≤ 99
  pub sound : All Sound (views_in picks n)
  pub base_first_lem : base_first (views_in picks n) ≡ true

pub record ListedIs (picks : List Pick) (n : ℕ) (r : Listed) : Type 0 where
  pub each_in : (i : ℕ) → nat_abs (get_or r.amounts i no_cents).0 ≤ most_amount
  pub total : r.total ≡ total_of (amounts_of (views_in picks n))
  pub amounts : (c : Cents) → r.total ≡ InRange c → amounts_in r.amounts n ≡ amounts_of (views_in picks n)
  pub behind : (i : ℕ) → n ≤ i → get_or r.amounts i no_cents ≡ no_cents
  pub zeros : r.total ≡ OutOfRange → r.amounts ≡ replicate 99 no_cents

-- and it says whether the rows are in the currency c
pub record ListedIn (c : List ℕ) (picks : List Pick) (n : ℕ) (r : Listed) : Type 0 where
  pub list : ListedIs picks n r
  pub one : Says (one_currency c (views_in picks n)) r.one

-- ---- bytes

-- there is room for n lines from `at` on
pub record Writable (out : List ℕ) (at : ℕ) (amounts : List Cents) (n : ℕ) : Type 0 where
  pub few : n ≤ 99
  pub room : at + line_size * n ≤ length out
  pub each_in : (i : ℕ) → nat_abs (get_or amounts i no_cents).0 ≤ most_amount
