-- `price_line::span_of` meets its contract.
use Rattle.fields.proofs.GivenLaws.{none_with}
use Rattle.price_line.proofs.GroupLaws.{no_from, no_to, no_upto, span_is}
use Rattle.price_line.proofs.span_of.Goals as goal

pub returns-in_err-day_in : goal.returns-in_err-day_in
returns-in_err-day_in c = none_with _ _ c.from_residual.ensures (no_from _ _ _ c.in_err-day_in.ensures)

pub returns-in_err-day_in-2 : goal.returns-in_err-day_in-2
returns-in_err-day_in-2 c = none_with _ _ c.from_residual-in_err-day_in-2.ensures (no_to _ _ _ c.in_err-day_in-2.ensures)

pub returns-in_err-number_in : goal.returns-in_err-number_in
returns-in_err-number_in c = none_with _ _ c.from_residual-in_err-number_in.ensures (no_upto _ _ _ c.in_err-number_in.ensures)

pub returns : goal.returns
returns c = span_is c.args.from c.args.to c.args.upto c.in_ok-day_in.ensures c.in_ok-day_in-2.ensures c.in_ok-number_in.ensures
