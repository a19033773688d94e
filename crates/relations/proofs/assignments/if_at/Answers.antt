-- `relations::assignments::if_at` meets its contract: IF, or a comma.
use borrow.Author.Rules.{rules}
use Rattle.relations.proofs.AssignmentLaws.{if_none, if_condition, if_comma}
use Rattle.relations.proofs.assignments.if_at.Goals as goal

pub returns-in_err-word : goal.returns-in_err-word
returns-in_err-word c = search (rules, if_none)

pub returns-then-word_of-eq1 : goal.returns-then-word_of-eq1
returns-then-word_of-eq1 c = search (rules, if_condition)

pub returns : goal.returns
returns c = if_comma c.blanks-from.ensures c.in_ok-word.ensures c.word_of.ensures c.if-word_of-eq1.false
