-- `calendar::refusal` meets its contract: each number in its order.
use borrow.Author.Rules.{rules}
use Rattle.calendar.proofs.CallLaws.{refused_listed, refused_7, not_refused}
use Rattle.calendar.proofs.refusal.Goals as goal

ruleset laws = (rules, refused_listed, refused_7, not_refused)

pub returns-then-listed-ne0 : goal.returns-then-listed-ne0
returns-then-listed-ne0 c = search laws

pub returns-then-room-size : goal.returns-then-room-size
returns-then-room-size c = rw c.from.ensures (refused_7 _ _ _ (search rules) (search rules))

pub returns-else-room-size : goal.returns-else-room-size
returns-else-room-size c = search laws
