-- `choice::hands::taken` meets its contract: by the laws `taken_..`.
use borrow.Author.Rules.{rules}
use Rattle.choice.proofs.HandLaws.{taken_asked, taken_other}
use Rattle.choice.proofs.hands.taken.Goals as goal

ruleset laws = (rules, taken_asked, taken_other)

pub returns-then-s : goal.returns-then-s
returns-then-s c = search laws

pub returns-else-s : goal.returns-else-s
returns-else-s c = search laws
