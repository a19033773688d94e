-- `texts::piece` meets its contract: block and offset are those of the slice, and the length comes out.
use borrow.Author.Rules.{rules}
use Rattle.layout.proofs.LayoutLaws.{part_is}
use Rattle.texts.proofs.piece.Goals as goal

ruleset laws = (rules, part_is)

pub returns : goal.returns
returns c = search laws
