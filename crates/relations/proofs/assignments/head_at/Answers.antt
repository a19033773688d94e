-- `relations::assignments::head_at` meets its contract: each token by its law, and what may not come instead.
use borrow.Author.Rules.{rules}
use Rattle.relations.proofs.AssignmentLaws.{no_variable, no_equals, no_string, head_there}
use Rattle.relations.proofs.assignments.head_at.Goals as goal

ruleset laws = (rules, no_variable, no_equals, no_string, head_there)

pub returns-in_err-variable : goal.returns-in_err-variable
returns-in_err-variable c = search laws

pub returns-in_err-becomes : goal.returns-in_err-becomes
returns-in_err-becomes c = search laws

pub returns-in_err-string : goal.returns-in_err-string
returns-in_err-string c = search laws

pub returns : goal.returns
returns c = search laws
