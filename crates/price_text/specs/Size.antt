-- How long the line of a record is, where a line can hold it.
use Rattle.std.specs.Prelude.{ℕ, ◌≤◌, ◌≡◌, Bool, true, false, List, length, Result, Ok, Err}
use Rattle.rules.specs.Lists.{all}
use Rattle.rules.specs.Layout.{whole}
use Rattle.rules.specs.BookLayout.{kinded}
use Rattle.file_rules.specs.PriceFile.{fits_line}
use Rattle.price_text.specs.declared.Unfit.{Unfit}
use Rattle.price_text.specs.Line.{brings, line_of}

-- whether a line can hold the row of the record t, if it brings one
abbrev pub fits : List ℕ → Bool
fits t = all fits_line (brings (whole kinded t))

pub record LineHolds (t : List ℕ) (size : ℕ) : Type 0 where
  pub fit : fits t ≡ true
  pub is : size ≡ length (line_of t)
  pub few : size ≤ 1300

-- it would be so long, but none can
pub record NoLineHolds (t : List ℕ) (size : ℕ) : Type 0 where
  pub unfit : fits t ≡ false
  pub is : size ≡ length (line_of t)
  pub few : size ≤ 1300

abbrev pub SizeOf : List ℕ → Result ℕ Unfit → Type 0
SizeOf t (Ok size) = LineHolds t size
SizeOf t (Err u) = NoLineHolds t u.size
