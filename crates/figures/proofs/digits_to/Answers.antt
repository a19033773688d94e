-- `figures::digits_to` meets its contract.
use borrow.Author.Rules.{rules}
use Rattle.fields.proofs.GivenLaws.{missing}
use Rattle.figures.proofs.DigitLaws.{digits_none}
use Rattle.figures.proofs.digits_to.Goals as goal

pub returns-in_err-n : goal.returns-in_err-n
returns-in_err-n c = missing _ c.from_residual.ensures (search (rules, digits_none))
