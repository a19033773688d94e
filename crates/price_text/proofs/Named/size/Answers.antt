-- `price_text::Named::size` meets its contract.
use borrow.Author.Rules.{rules}
use Rattle.price_text.proofs.LineLaws.{no_fit, line_holds}
use Rattle.price_text.proofs.Named.size.Goals as goal

ruleset laws = (rules, no_fit, line_holds)

pub returns-then-fits_line : goal.returns-then-fits_line
returns-then-fits_line c = search laws

pub returns-else-fits_line : goal.returns-else-fits_line
returns-else-fits_line c = search laws
