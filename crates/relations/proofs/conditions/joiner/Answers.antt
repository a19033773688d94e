-- `relations::conditions::joiner` meets its contract: the end, or a word.
use borrow.Author.Rules.{rules}
use Rattle.std.proofs.Common.{arith}
use Rattle.relations.proofs.JoinLaws.{join_none, join_and, join_or, join_closed}
use Rattle.relations.proofs.conditions.joiner.Goals as goal

pub returns-in_err-word : goal.returns-in_err-word
returns-in_err-word c = search (rules, join_none)

pub returns-in-1 : goal.returns-in-1
returns-in-1 c = join_and _ c.blanks-from.ensures c.in_ok-word.ensures c.word_of.ensures (omega arith)

pub returns-in-2 : goal.returns-in-2
returns-in-2 c = join_or _ c.blanks-from.ensures c.in_ok-word.ensures c.word_of.ensures (omega arith)

pub returns-in_default : goal.returns-in_default
returns-in_default c = join_closed _ c.blanks-from.ensures c.in_ok-word.ensures c.word_of.ensures (λ e. omega arith) (λ e. omega arith)
