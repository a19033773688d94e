-- What the program prints, of the stretches as the code keeps them.
use Rattle.std.specs.Prelude.{ℕ, ◌*◌, ◌≤◌, ◌≡◌, List, map, length, take, replicate}
use Rattle.rules.specs.Lists.{join}
use Rattle.rules.specs.Refusals.{over}
use Rattle.rules.specs.Calendar.{most_days}
use Rattle.rules.specs.Program.{stretch_text, printed, output}
use Rattle.stretches.specs.declared.Stretch.{Stretch}
use Rattle.stretches.specs.Stretches.{as_stretch}
use Rattle.calendar.specs.declared.listing.Listing.{Listing}
use Rattle.calendar.specs.Listing.{listed}
use Rattle.printing.specs.declared.output.Printed.{Printed}
use Rattle.layout.specs.Ensures.{PutsTo}

-- a line for each stretch
abbrev pub lines_text : List Stretch → List ℕ
lines_text ss = join (map (λ s. stretch_text (as_stretch s)) ss)

-- or the refusal
abbrev pub listed_text : Listing → List ℕ
listed_text l = printed (listed l)

-- no more stretches than a period has days
pub record Few (l : Listing) : Type 0 where
  pub long : length l.stretches.list ≡ most_days
  pub few : l.stretches.n ≤ most_days

-- and room for a line on each
pub record Printable (out : List ℕ) (ss : List Stretch) : Type 0 where
  pub few : length ss ≤ most_days
  pub room : 97544 ≤ length out

-- the lines of the first i stretches stand in front of `at`
pub record Printing (old : List ℕ) (ss : List Stretch) (out : List ℕ) (at i : ℕ) : Type 0 where
  pub place : i ≤ length ss
  pub printable : Printable old ss
  pub short : at ≤ 89 * i
  pub so_far : PutsTo old 0 (lines_text (take i ss)) out at

-- the first n bytes are the program's output, and zeros stand behind them
pub record OutputIs (input : List ℕ) (r : Printed) : Type 0 where
  pub is : take r.n r.bytes ≡ output input
  pub within : r.n ≤ length r.bytes
  pub all : r.bytes ≡ over (output input) (replicate 97544 0)
