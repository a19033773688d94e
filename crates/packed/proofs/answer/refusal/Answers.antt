-- `packed::answer::refusal` meets its contract: by the law `refusal_is`.
use borrow.Author.Rules.{rules}
use Rattle.packed.proofs.AnswerLaws.{refusal_is}
use Rattle.packed.proofs.answer.refusal.Goals as goal

ruleset laws = (rules, refusal_is)

pub returns : goal.returns
returns c = search laws
