-- `figures::date_in` meets its contract: eight digits, or none at all.
use native.Mathlib.Omega.{arith}
use Rattle.fields.proofs.GivenLaws.{agrees_as}
use Rattle.figures.proofs.DigitLaws.{date_blank, date_size, date_is}
use Rattle.figures.proofs.date_in.Goals as goal

pub returns-in-0 : goal.returns-in-0
returns-in-0 c = date_blank c.args.s.now (omega arith)

pub returns-in-8 : goal.returns-in-8
returns-in-8 c = agrees_as (date_is c.args.s.now (omega arith)) _ c.digits_to.ensures

pub returns-in_default : goal.returns-in_default
returns-in_default c = date_size c.args.s.now (λ e. omega arith) (λ e. omega arith)
