-- `figures::cents_from` meets its contract: digit by digit.
use Rattle.fields.proofs.GivenLaws.{missing}
use Rattle.figures.proofs.AmountLaws.{cents_whole, cents_tenths, cents_two}
use Rattle.figures.proofs.cents_from.Goals as goal

pub returns-in_err-whole : goal.returns-in_err-whole
returns-in_err-whole c =
    missing _ c.from_residual.ensures
    (cents_whole _ _ _ c.requires.p_in_bounds c.requires.d_in_bounds c.if-p-decimals-lt1.false c.zeros_behind.ensures c.if-zeros_behind.true c.in_err-whole.ensures)

pub returns-in_err-tenths : goal.returns-in_err-tenths
returns-in_err-tenths c =
    missing _ c.from_residual-in_err-tenths.ensures
    (cents_tenths _ _ _ c.requires.p_in_bounds c.requires.d_in_bounds c.if-p-decimals-lt1.false c.zeros_behind.ensures c.if-zeros_behind.true c.in_ok-whole.ensures
    c.decimal_at.ensures c.in_err-tenths.ensures)

pub returns-then-zeros_behind : goal.returns-then-zeros_behind
returns-then-zeros_behind c =
    cents_two _ _ _ c.requires.p_in_bounds c.requires.d_in_bounds c.if-p-decimals-lt1.false c.zeros_behind.ensures c.if-zeros_behind.true c.in_ok-whole.ensures
    c.decimal_at.ensures c.in_ok-tenths.ensures c.decimal_at-then-zeros_behind.ensures _ c.add_digit-then-zeros_behind.ensures
