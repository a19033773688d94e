-- `final_number::answered` meets its contract: a law `call_..` for each refusal; `number_in` does the rest.
use borrow.Author.Rules.{rules}
use Rattle.final_number.proofs.CallLaws.{call_1, call_2}
use Rattle.final_number.proofs.answered.Goals as goal

ruleset laws = (rules, call_1, call_2)

pub returns-then-not-is_book : goal.returns-then-not-is_book
returns-then-not-is_book c = search laws

pub returns-then-not-question_ok : goal.returns-then-not-question_ok
returns-then-not-question_ok c = search laws
