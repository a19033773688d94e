-- `choice::passing::slot_at` meets its contract: by the laws `slot_near` and `slot_far`.
use borrow.Author.Rules.{rules}
use Rattle.choice.proofs.PassingLaws.{slot_near, slot_far}
use Rattle.choice.proofs.passing.slot_at.Goals as goal

ruleset laws = (rules, slot_near, slot_far)

pub returns-then-place-lt-NOWHERE : goal.returns-then-place-lt-NOWHERE
returns-then-place-lt-NOWHERE c = search laws

pub returns-else-place-lt-NOWHERE : goal.returns-else-place-lt-NOWHERE
returns-else-place-lt-NOWHERE c = search laws
