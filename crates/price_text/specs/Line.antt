-- The line that a record of a book brings to a price file.
use Rattle.std.specs.Prelude.{ℕ, ◌+◌, ◌<◌, true, false, List, []}
use Rattle.std.proofs.Math.Option.{Option, some, none}
use Rattle.rules.specs.Lists.{cons_some}
use Rattle.rules.specs.Layout.{whole}
use Rattle.rules.specs.Book.{Record, Row, PriceRecord, as_row}
use Rattle.rules.specs.BookLayout.{kinded}
use Rattle.file_rules.specs.PriceFile.{file_text}
use Rattle.layout.specs.Reads.{part}
use Rattle.kinds.specs.Fields.{row_at}
use Rattle.records.specs.Asks.{TwoNames}
use Rattle.decimals.specs.Texts.{ended}
use Rattle.quotes.specs.Names.{text_in}
use Rattle.price_terms.specs.declared.Terms.{Terms}
use Rattle.price_terms.specs.Terms.{two, kind_text, tail_text}

-- a price record brings a row, any other none
abbrev pub brings : Option Record → List Row
brings none = []
brings (some r) = cons_some (as_row r) []

-- the line of the record t, with its end; nothing, where it brings none
unfoldable pub line_of : List ℕ → List ℕ
line_of t = file_text (brings (whole kinded t))

-- a price record: its article ends at a, and its condition at p
pub record Priced (t : List ℕ) (a p : ℕ) : Type 0 where
  pub here : TwoNames t a p 29 (PriceRecord (row_at t 1 a p))
  pub short : a < 258
  pub brief : p < a + 257

-- ---- the line's parts

abbrev pub names_text : List ℕ → ℕ → ℕ → List ℕ
names_text t a p = two (ended (text_in true (part t 2 a))) (ended (text_in false (part t (a + 1) p)))

abbrev pub term_text : List ℕ → ℕ → Terms → List ℕ
term_text t p r = two (kind_text t p r.text) (tail_text t p r)
