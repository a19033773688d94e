-- A round: the names of texts behind the first c get their numbers, as many as the table holds.
use Rattle.std.specs.Prelude.{ℕ, suc, ◌+◌, ◌-◌, ◌<◌, ◌≤◌, ◌≡◌, List, [], ◌++◌, Bool, ltb, length, drop, get_or}
use Rattle.rules.specs.Refusals.{over}
use Rattle.rules.specs.RowBytes.{rows_bytes}
use Rattle.file_rules.specs.PriceFile.{place_in, numbered}
use Rattle.layout.specs.Reads.{part}
use Rattle.fields.specs.Field.{CutAt}
use Rattle.price_line.specs.declared.PriceLine.{PriceLine}
use Rattle.price_line.specs.Line.{LineIs}
use Rattle.text_names.specs.declared.Names.{Names}
use Rattle.text_names.specs.Hashes.{name_from}
use Rattle.text_names.specs.Names.{Table}
use Rattle.reading.specs.declared.rounds.Walk.{Walk}
use Rattle.reading.specs.Rows.{rows_in, Good, records_at, met_after, Brings, Filling}

-- the table holds the names that were met behind the first c, or as many of them as it can
pub record Known (file : List ℕ) (c : ℕ) (met : List (List ℕ)) (names : Names) : Type 0 where
  pub table : Table file names
  pub low : names.count ≤ length met - c
  pub most : names.count ≤ 65535
  pub all_in : names.count < 65535 → length met - c ≤ names.count
  pub named : (i : ℕ) → i < names.count → name_from file (get_or names.starts i 0) ≡ get_or met (c + i) []
  pub firsts : (i : ℕ) → i < length met → place_in met (get_or met i []) ≡ suc i
  pub starts_long : length names.starts ≡ 65535
  pub before_long : length names.before ≡ 65535

-- the lines from `at` on are left; before the first round anything stands where their records come, later these with the numbers up to c
pub record Round (file wanted : List ℕ) (c : ℕ) (out : List ℕ) (at : ℕ) (walk : Walk) : Type 0 where
  pub met : List (List ℕ)
  pub known : Known file c met walk.names
  pub under : List ℕ
  pub fill : Filling file wanted (c + 65535) out at walk.to met under
  pub stands : 1 ≤ c → under ≡ records_at c met (rows_in (drop at file))
  pub told : walk.more ≡ ltb (c + 65535) (length met)
  pub last_met : met_after met (rows_in (drop at file)) ≡ met_after [] (rows_in file)
  pub small : c ≤ length file

-- what a line leaves of a round
pub record Moves (file : List ℕ) (c : ℕ) (out : List ℕ) (walk : Walk) (at next : ℕ) (out' : List ℕ) (walk' : Walk) : Type 0 where
  pub on : (wanted : List ℕ) → Round file wanted c out at walk → Round file wanted c out' next walk'

-- a line, in a round
pub record Ready (file : List ℕ) (c : ℕ) (out : List ℕ) (walk : Walk) (at : ℕ) : Type 0 where
  pub wanted : List ℕ
  pub round : Round file wanted c out at walk
  pub here : at < length file

-- a row whose record is to be written, of a line that ends at `end`: in the first round any, later one that waits
pub record Due (file : List ℕ) (c : ℕ) (out : List ℕ) (walk : Walk) (at end : ℕ) (row : PriceLine) : Type 0 where
  pub ready : Ready file c out walk at
  pub cut : CutAt 10 file at end
  pub line : LineIs (part file at end) row
  pub brings : Brings file at (end + 1) (part file at end) row
  pub waits : 1 ≤ c → get_or out (walk.to + 2) 0 ≡ 0

-- behind the record of the row
pub record Behind (to : ℕ) (row : PriceLine) (r : ℕ) : Type 0 where
  pub is : r ≡ to + 34 + row.article.count + row.condition.count

-- where in the file the field of the text's name starts
pub record NameAt (at : ℕ) (row : PriceLine) (r : ℕ) : Type 0 where
  pub is : r ≡ at + row.start

-- the records of a file's rows have room at the front, and after the first round stand there, with numbers up to c
pub record Holds (c : ℕ) (file out : List ℕ) : Type 0 where
  pub good : Good file
  pub small : c ≤ length file
  pub under : List ℕ
  pub tail : List ℕ
  pub is : out ≡ under ++ tail
  pub long : length under ≡ length (records_at c [] (rows_in file))
  pub stands : 1 ≤ c → under ≡ records_at c [] (rows_in file)

pub record Rounded (c : ℕ) (file old new : List ℕ) (r : Bool) : Type 0 where
  pub is : new ≡ over (records_at (c + 65535) [] (rows_in file)) old
  pub more : r ≡ ltb (c + 65535) (length (met_after [] (rows_in file)))
  pub small : c ≤ length file

-- round by round, of a file whose records have room at the front: names are left behind the first c, if not all have their numbers yet
pub record Numbering (file old out : List ℕ) (c : ℕ) : Type 0 where
  pub good : Good file
  pub room : length (records_at 0 [] (rows_in file)) ≤ length old
  pub first : c < 1 → out ≡ old
  pub is : 1 ≤ c → out ≡ over (records_at c [] (rows_in file)) old
  pub some_left : c ≤ length (met_after [] (rows_in file))

-- all have their numbers
pub record AllNumbered (file old new : List ℕ) : Type 0 where
  pub is : new ≡ over (rows_bytes (numbered (rows_in file))) old
