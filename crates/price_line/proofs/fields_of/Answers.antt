-- `price_line::fields_of` meets its contract: one field after the other.
use Rattle.fields.proofs.GivenLaws.{none_with}
use borrow.Author.Rules.{rules}
use Rattle.price_line.proofs.FieldsLaws.{fields_none, fields_on, fields_stop}
use Rattle.price_line.proofs.fields_of.Goals as goal

pub returns-in_err-first : goal.returns-in_err-first
returns-in_err-first c = none_with _ _ c.from_residual.ensures (fields_none c.args.line.now c.in_err-first.ensures)

pub loop-k-preserved : goal.loop-k-preserved
loop-k-preserved c = fields_on c.loop-k.invariant (search rules) c.in_ok-fields.ensures

pub returns-in_err-fields : goal.returns-in_err-fields
returns-in_err-fields c = none_with _ _ c.from_residual-in_err-fields.ensures (fields_stop c.loop-k.invariant (search rules) c.in_err-fields.ensures)
