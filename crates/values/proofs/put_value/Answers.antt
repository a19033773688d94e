-- `values::put_value` meets its contract: a law for each state.
use borrow.Author.Rules.{rules}
use Rattle.values.proofs.ValueLaws.{value_long, valued, hidden, unselected}
use Rattle.values.proofs.put_value.Goals as goal

ruleset laws = (rules, value_long, valued, hidden, unselected)

pub put_padded-requires : goal.put_padded-requires
put_padded-requires c = search laws

pub returns-in-Valued : goal.returns-in-Valued
returns-in-Valued c = search laws

pub returns-in-Hidden : goal.returns-in-Hidden
returns-in-Hidden c = search laws

pub returns-in-Unselected : goal.returns-in-Unselected
returns-in-Unselected c = search laws
