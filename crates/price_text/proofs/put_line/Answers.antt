-- `price_text::put_line` meets its contract.
use Rattle.price_text.proofs.LineLaws.{no_line_put}
use Rattle.price_text.proofs.put_line.Goals as goal

pub returns-in_default : goal.returns-in_default
returns-in_default c = no_line_put c.requires.accepted c.in_default.ensures c.requires.room_for
