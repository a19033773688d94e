-- `final_number::scheme_for` meets its contract: by the laws `scheme_none` and `scheme_there`.
use borrow.Author.Rules.{rules}
use Rattle.final_number.proofs.CallLaws.{scheme_none, scheme_there}
use Rattle.final_number.proofs.scheme_for.Goals as goal

ruleset laws = (rules, scheme_none, scheme_there)

pub returns-then-scheme-eq0 : goal.returns-then-scheme-eq0
returns-then-scheme-eq0 c = search laws

pub returns : goal.returns
returns c = search laws
