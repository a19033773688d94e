-- `price_line::priced_of` meets its contract.
use Rattle.fields.proofs.GivenLaws.{none_with}
use Rattle.price_line.proofs.GroupLaws.{no_amount, no_flag, no_bounds, worth_is, priced_is}
use Rattle.price_line.proofs.priced_of.Goals as goal

pub returns-in_err-amount : goal.returns-in_err-amount
returns-in_err-amount c = none_with _ _ c.from_residual.ensures (no_amount _ _ c.in_err-amount.ensures)

pub returns-in_err-letter : goal.returns-in_err-letter
returns-in_err-letter c = none_with _ _ c.from_residual-in_err-letter.ensures (no_flag _ _ c.in_ok-amount.ensures c.in_err-letter.ensures)

pub returns-then-in_range : goal.returns-then-in_range
returns-then-in_range c = priced_is (worth_is _ _ c.in_ok-amount.ensures c.in_ok-letter.ensures c.in_range.ensures c.if-in_range.true)

pub returns : goal.returns
returns c = no_bounds _ _ c.in_ok-amount.ensures c.in_ok-letter.ensures c.in_range.ensures c.if-in_range.false
