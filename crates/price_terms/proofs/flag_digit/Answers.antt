-- `price_terms::flag_digit` meets its contract.
use borrow.Author.Rules.{rules}
use Rattle.price_terms.proofs.TermLaws.{flag_none, flag_some}
use Rattle.price_terms.proofs.flag_digit.Goals as goal

ruleset laws = (rules, flag_none, flag_some)

pub returns-then-flag-eq0 : goal.returns-then-flag-eq0
returns-then-flag-eq0 c = search laws

pub returns-else-flag-eq0 : goal.returns-else-flag-eq0
returns-else-flag-eq0 c = search laws
