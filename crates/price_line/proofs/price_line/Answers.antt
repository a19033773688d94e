-- `price_line::price_line` meets its contract.
use Rattle.fields.proofs.GivenLaws.{none_with}
use native.Mathlib.Omega.{arith}
use Rattle.price_line.proofs.FieldsLaws.{field_text}
use Rattle.price_line.proofs.LineLaws.{kinds_not, priced_not, currency_not, span_not, last_full, last_behind, line_is}
use Rattle.price_line.proofs.price_line.Goals as goal

pub returns-in_err-kinds : goal.returns-in_err-kinds
returns-in_err-kinds c = none_with _ _ c.from_residual-in_err-kinds.ensures (kinds_not c.in_ok-fields.ensures c.in_err-kinds.ensures)

pub returns-in_err-priced : goal.returns-in_err-priced
returns-in_err-priced c = none_with _ _ c.from_residual-in_err-priced.ensures (priced_not c.in_ok-fields.ensures c.in_err-priced.ensures)

pub returns-in_err-currency : goal.returns-in_err-currency
returns-in_err-currency c = none_with _ _ c.from_residual-in_err-currency.ensures (currency_not c.in_ok-fields.ensures c.in_err-currency.ensures)

pub span_of-requires-clause-to_is : goal.span_of-requires-clause-to_is
span_of-requires-clause-to_is c = field_text c.in_ok-fields.ensures 10 (omega arith)

pub span_of-requires-clause-upto_is : goal.span_of-requires-clause-upto_is
span_of-requires-clause-upto_is c = field_text c.in_ok-fields.ensures 11 (omega arith)

pub returns-in_err-span : goal.returns-in_err-span
returns-in_err-span c = none_with _ _ c.from_residual-in_err-span.ensures (span_not c.in_ok-fields.ensures c.in_err-span.ensures)

pub returns-then-last-ne0 : goal.returns-then-last-ne0
returns-then-last-ne0 c = last_full c.in_ok-fields.ensures c.if-last-ne0.true

pub returns-then-last-line : goal.returns-then-last-line
returns-then-last-line c = last_behind c.in_ok-fields.ensures c.if-last-line.true

pub returns : goal.returns
returns c =
    line_is c.in_ok-fields.ensures c.names_fit.ensures c.if-not-names_fit.false c.in_ok-kinds.ensures c.in_ok-priced.ensures c.in_ok-currency.ensures c.in_ok-span.ensures
    c.if-last-ne0.false c.if-last-line.false
