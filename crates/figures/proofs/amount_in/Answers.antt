-- `figures::amount_in` meets its contract.
use Rattle.fields.proofs.GivenLaws.{none_with}
use Rattle.figures.proofs.AmountLaws.{amount_is, amount_none}
use Rattle.figures.proofs.amount_in.Goals as goal

pub returns-in_err-hundredths : goal.returns-in_err-hundredths
returns-in_err-hundredths c =
    none_with _ _ c.from_residual.ensures (amount_none c.args.s.now c.is_negative-minus.ensures c.from.ensures c.in_err-hundredths.ensures)

pub returns : goal.returns
returns c = amount_is c.args.s.now c.is_negative-minus.ensures c.from.ensures c.in_ok-hundredths.ensures
