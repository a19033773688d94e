-- `packed::answer::answer_of` meets its contract: by the laws `answer_given` and `answer_refused`.
use borrow.Author.Rules.{rules}
use Rattle.packed.proofs.AnswerLaws.{answer_given, answer_refused}
use Rattle.packed.proofs.answer.answer_of.Goals as goal

ruleset laws = (rules, answer_given, answer_refused)

pub returns-then-not-fits : goal.returns-then-not-fits
returns-then-not-fits c = search laws

pub returns : goal.returns
returns c = search laws
