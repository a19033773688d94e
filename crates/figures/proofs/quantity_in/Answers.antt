-- `figures::quantity_in` meets its contract: one digit at least.
use Rattle.std.proofs.Common.{rules}
use Rattle.fields.proofs.GivenLaws.{agrees_as}
use Rattle.figures.proofs.DigitLaws.{quantity_none, quantity_is}
use Rattle.figures.proofs.quantity_in.Goals as goal

pub returns-then-is_empty : goal.returns-then-is_empty
returns-then-is_empty c = quantity_none c.args.s.now (search rules)

pub returns : goal.returns
returns c = agrees_as (quantity_is c.args.s.now (search rules)) _ c.digits_to.ensures
