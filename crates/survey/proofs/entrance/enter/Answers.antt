-- `survey::entrance::enter` meets its contract: each way out by its law `enters_..`.
use borrow.Author.Rules.{rules}
use Rattle.survey.proofs.EntranceLaws.{is_question, enters_both, enters_no_book, enters_no_question, enters_neither}
use Rattle.survey.proofs.entrance.enter.Goals as goal

ruleset laws = (rules, is_question, enters_both, enters_no_book, enters_no_question, enters_neither)

pub ask_of-ask-requires : goal.ask_of-ask-requires
ask_of-ask-requires c = search laws

pub returns-then-is_book : goal.returns-then-is_book
returns-then-is_book c = search laws

pub returns-then-not-question_ok : goal.returns-then-not-question_ok
returns-then-not-question_ok c = search laws

pub returns-in-Some : goal.returns-in-Some
returns-in-Some c = search laws

pub returns-in-None : goal.returns-in-None
returns-in-None c = search laws
