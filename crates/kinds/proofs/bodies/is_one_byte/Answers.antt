use borrow.Author.Rules.{rules}
use Rattle.kinds.proofs.FieldLaws.{one_byte_not}
use Rattle.kinds.proofs.bodies.is_one_byte.Goals as goal

ruleset laws = (rules, one_byte_not)

pub returns-then-s-ne1 : goal.returns-then-s-ne1
returns-then-s-ne1 c = search laws
