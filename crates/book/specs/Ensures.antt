-- What the functions of this crate ensure and ask.
use Rattle.std.specs.Prelude.{ℕ, ◌+◌, ◌≤◌, ◌<◌, ◌≡◌, List, ltb, length, drop}
use Rattle.rules.specs.Lists.{is_some}
use Rattle.rules.specs.Layout.{back}
use Rattle.rules.specs.BookLayout.{one_record, records}
use Rattle.layout.specs.Records.{record_in, records_from, record_stop}

-- ---- the header

-- ---- a record

-- the record at `at` ends at `r`; 0: none
pub record RecordEnd (b : List ℕ) (at r : ℕ) : Type 0 where
  pub is : one_record (drop at b) ≡ back (record_in b at r) (drop r b)
  pub ok : is_some (record_in b at r) ≡ ltb 0 r
  pub low : 0 < r → at + 2 ≤ r
  pub stop : 0 < r → r ≡ record_stop b at
  pub fits : r ≤ length b

-- ---- a pass over the records

-- the records from `at` on decide about the whole book
pub record Decides (b : List ℕ) (at : ℕ) : Type 0 where
  pub fits : at ≤ length b
  pub rest : is_some (records_from b at) ≡ is_some (records b)
