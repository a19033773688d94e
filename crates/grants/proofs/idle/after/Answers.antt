-- `grants::idle::after` meets its contract: the place has come in, or it has not.
use borrow.Author.Rules.{rules}
use Rattle.grants.proofs.IdleLaws.{after_in, after_out}
use Rattle.grants.proofs.idle.after.Goals as goal

ruleset laws = (rules, after_in, after_out)

pub returns-then-comes : goal.returns-then-comes
returns-then-comes c = search laws

pub returns-else-comes : goal.returns-else-comes
returns-else-comes c = search laws
