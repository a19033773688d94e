-- `picks::held::held_in` meets its contract: the rows in hand so far, and what the slots left choose, by the laws `hold_..`.
use borrow.Author.Rules.{rules}
use Rattle.picks.proofs.HeldLaws.{hold_start, hold_turn, hold_end}
use Rattle.picks.proofs.held.held_in.Goals as goal

ruleset laws = (rules, hold_start, hold_turn, hold_end)

pub loop-i-init : goal.loop-i-init
loop-i-init c = hold_start _ _ _ _ _ (search rules) (search rules) (search rules)

pub loop-i-preserved : goal.loop-i-preserved
loop-i-preserved c = search laws

pub returns : goal.returns
returns c = search laws
