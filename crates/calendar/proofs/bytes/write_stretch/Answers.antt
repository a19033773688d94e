-- `calendar::bytes::write_stretch` meets its contract: four fields, one behind the other, by `stretch_puts`.
use borrow.Author.Rules.{rules}
use Rattle.calendar.proofs.ByteLaws.{stretch_puts}
use Rattle.calendar.proofs.bytes.write_stretch.Goals as goal

ruleset laws = (rules, stretch_puts)

pub returns : goal.returns
returns c = search laws
