-- `price_text::line_size` meets its contract.
use Rattle.price_text.proofs.LineLaws.{no_line}
use Rattle.price_text.proofs.line_size.Goals as goal

pub returns-in_default : goal.returns-in_default
returns-in_default c = no_line c.requires c.in_default.ensures
