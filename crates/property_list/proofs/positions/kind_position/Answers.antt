-- `property_list::positions::kind_position` meets its contract: the property stands there, so its name has a kind byte behind it, by `kind_is`.
use borrow.Author.Rules.{rules}
use Rattle.property_list.proofs.PositionLaws.{kind_is}
use Rattle.property_list.proofs.positions.kind_position.Goals as goal

ruleset laws = (rules, kind_is)

pub returns : goal.returns
returns c = search laws
