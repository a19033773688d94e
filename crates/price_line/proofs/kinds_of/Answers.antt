-- `price_line::kinds_of` meets its contract.
use Rattle.fields.proofs.GivenLaws.{none_with}
use Rattle.price_line.proofs.GroupLaws.{no_sort, no_level, no_rule, kinds_are}
use Rattle.price_line.proofs.kinds_of.Goals as goal

pub returns-in_err-letter_in : goal.returns-in_err-letter_in
returns-in_err-letter_in c = none_with _ _ c.from_residual.ensures (no_sort _ _ _ c.in_err-letter_in.ensures)

pub returns-in_err-letter_in-2 : goal.returns-in_err-letter_in-2
returns-in_err-letter_in-2 c = none_with _ _ c.from_residual-in_err-letter_in-2.ensures (no_level _ _ _ c.in_err-letter_in-2.ensures)

pub returns-in_err-letter_in-3 : goal.returns-in_err-letter_in-3
returns-in_err-letter_in-3 c = none_with _ _ c.from_residual-in_err-letter_in-3.ensures (no_rule _ _ _ c.in_err-letter_in-3.ensures)

pub returns : goal.returns
returns c = kinds_are c.args.sort c.args.level c.args.rule c.in_ok-letter_in.ensures c.in_ok-letter_in-2.ensures c.in_ok-letter_in-3.ensures
