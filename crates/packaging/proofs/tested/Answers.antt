-- `packaging::tested` meets its contract: 1 by `call_1`, 2 by `call_2`, the rest by `answered`.
use borrow.Author.Rules.{rules}
use Rattle.packaging.proofs.CallLaws.{call_1, call_2}
use Rattle.packaging.proofs.tested.Goals as goal

ruleset laws = (rules, call_1, call_2)

pub returns-then-not-is_book : goal.returns-then-not-is_book
returns-then-not-is_book c = search laws

pub returns-then-not-question_ok : goal.returns-then-not-question_ok
returns-then-not-question_ok c = search laws
