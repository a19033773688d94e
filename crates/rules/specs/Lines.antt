-- "From rows to a total": which components bring a line, in which order, and the amount of each line.
use Rattle.std.specs.Prelude.{ℕ, ◌*◌, Bool, cond, List, [], ◌∷◌, ◌++◌, map, eqb, ℤ, pos, ◌+ℤ◌}
use Rattle.std.proofs.Math.Option
use Rattle.std.proofs.Math.Option.{Option}
use Rattle.rules.specs.Lists.{keep, gather, join, all}
use Rattle.rules.specs.Bytes.{bytes_of, signed_bytes_of, either_side}
use Rattle.rules.specs.Book.{Record, Row, base, surcharge, discount, rows, roundings, rounding_for}
use Rattle.rules.specs.Question.{Question, Grant, grants, plain_factor}
use Rattle.rules.specs.Choice.{component, choose}
use Rattle.rules.specs.Amounts.{exact, factored, rounded}
use Rattle.rules.specs.declared.Rounding.{Rounding}
use Rattle.rules.specs.declared.Fraction.{Fraction}
use Rattle.rules.specs.declared.Total.{Total}
use Rattle.rules.specs.declared.Total.TheVariants.{InRange, OutOfRange}

-- ---- which components, and in which order

-- a component of the asked article and sort: its level, its condition, the place of that among the granted names, 0 for none, and its factor
pub record Slot : Type 0 where
  pub level : ℕ
  pub place : ℕ
  pub condition : List ℕ
  pub factor : ℕ

-- that of a level without a condition, and that of a granted name
abbrev pub plain_slot : ℕ → Slot
plain_slot level = record { level = level; place = 0; condition = []; factor = plain_factor }

abbrev pub named_slot : ℕ → Grant → Slot
named_slot level g = record { level = level; place = g.place; condition = g.name; factor = g.factor }

-- at a level, first the unconditioned component, then that of each granted name
abbrev pub slots_at : List Grant → ℕ → List Slot
slots_at gs level = plain_slot level ∷ map (named_slot level) gs

-- base, then surcharges, then discounts
unfoldable pub slots : List Grant → List Slot
slots gs = slots_at gs base ++ (slots_at gs surcharge ++ slots_at gs discount)

-- ---- the chosen rows

pub record Chosen : Type 0 where
  pub place : ℕ
  pub factor : ℕ
  pub row : Row

abbrev pub chosen_in : Slot → Row → Chosen
chosen_in s r = record { place = s.place; factor = s.factor; row = r }

-- the rows of a component
unfoldable pub rows_at : List Row → Question → Slot → List Row
rows_at rs q s = component q.article q.sort s.level s.condition rs

unfoldable pub chosen_at : List Row → Question → Slot → Option Chosen
chosen_at rs q s = Option.map (chosen_in s) (choose q.date q.quantity q.currency (rows_at rs q s))

unfoldable pub chosen : List Row → Question → List Chosen
chosen rs q = gather (chosen_at rs q) (slots (grants q.granted))

-- ---- the lines

-- a chosen row with its amount in cents
pub record Line : Type 0 where
  pub place : ℕ
  pub factor : ℕ
  pub row : Row
  pub amount : ℤ

abbrev pub sum : List ℤ → ℤ
sum [] = pos 0
sum (z ∷ zs) = z +ℤ sum zs

abbrev pub amounts : List Line → List ℤ
amounts ls = map (λ l. l.amount) ls

unfoldable pub total : List Line → ℤ
total ls = sum (amounts ls)

abbrev pub of_base : Line → Bool
of_base l = eqb l.row.level base

-- what the base lines come to, as listed
unfoldable pub base_sum : List Line → ℤ
base_sum ls = total (keep of_base ls)

-- what a percentage is of: rule 1 the base lines, rule 2 all lines before it
abbrev pub percent_of : ℕ → List Line → ℤ
percent_of rule before = cond (eqb rule 1) (base_sum before) (total before)

-- what a chosen row comes to behind those lines, exactly: the factor is on the amount, and not on what a percentage is of
abbrev pub exact_after : List Line → Chosen → Fraction
exact_after before c = factored c.factor (exact c.row.value (percent_of c.row.rule before))

-- and the line that it brings, a rounding later
unfoldable pub line_after : List Rounding → List Line → Chosen → Line
line_after rs before c =
    record {
      place = c.place;
      factor = c.factor;
      row = c.row;
      amount = rounded (rounding_for c.row.rounding rs) (exact_after before c);
    }

unfoldable pub lines_after : List Rounding → List Line → List Chosen → List Line
unfolding line_after
lines_after rs before [] = before
lines_after rs before (c ∷ cs) = lines_after rs (before ++ (line_after rs before c ∷ [])) cs

unfoldable pub lines_of : List Record → Question → List Line
lines_of book q = lines_after (roundings book) [] (chosen (rows book) q)

-- ---- the running total

-- what the lines come to after the first, after the second, and so on
abbrev pub running : ℤ → List ℤ → List ℤ
running before [] = []
running before (z ∷ zs) = (before +ℤ z) ∷ running (before +ℤ z) zs

-- in cents, either side of zero
abbrev pub most_total : ℕ
most_total = 1_000_000_000

-- what amounts come to, if it is in range after each of them
unfoldable pub total_of : List ℤ → Total
total_of zs = cond (all (either_side most_total) (running (pos 0) zs)) (InRange (record { 0 = sum zs })) OutOfRange

-- ---- the bytes of the lines

-- of a line
abbrev pub line_size : ℕ
line_size = 16

-- without a condition and for each of 32 granted names there is at most a line at each of three levels
abbrev pub most_lines : ℕ
most_lines = 99

-- so much room is enough for the lines of any price
abbrev pub most_lines_size : ℕ
most_lines_size = most_lines * line_size

-- in whatever version the question was, the factor stands last
abbrev pub line_bytes : Line → List ℕ
line_bytes l = bytes_of 4 l.row.text ++ (l.row.level ∷ l.place ∷ (signed_bytes_of 8 l.amount ++ bytes_of 2 l.factor))

unfoldable pub lines_bytes : List Line → List ℕ
lines_bytes ls = join (map line_bytes ls)
