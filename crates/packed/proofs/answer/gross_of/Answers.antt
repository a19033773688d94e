-- `packed::answer::gross_of` meets its contract: product and sum fit, and are the definition's, by the laws named.
use borrow.Author.Rules.{rules}
use Rattle.packed.proofs.AnswerLaws.{product_fits, gross_fits, gross_none, gross_given}
use Rattle.packed.proofs.answer.gross_of.Goals as goal

ruleset laws = (rules, product_fits, gross_fits, gross_none)

pub overflow_mul-result : goal.overflow_mul-result
overflow_mul-result c = search laws

pub overflow_add-result : goal.overflow_add-result
overflow_add-result c = search laws

pub returns-then-is_present : goal.returns-then-is_present
returns-then-is_present c = gross_given c.args.s c.requires c.is_present.ensures c.is_present-2.ensures c.is_present-3.ensures c.if-is_present.true

pub returns : goal.returns
returns c = search laws
