-- `choice::slots_after` meets its contract: what the noted rows that are left make of the slots is what all make of the first, by the laws `add_..`.
use borrow.Author.Rules.{rules}
use Rattle.records.proofs.TestLaws.{accepted}
use Rattle.choice.proofs.SharedLaws.{add_start, add_here, add_turn, add_end}
use Rattle.choice.proofs.slots_after.Goals as goal

ruleset laws = (rules, accepted, add_start, add_here, add_turn, add_end)

pub loop-at-preserved : goal.loop-at-preserved
loop-at-preserved c = search laws

pub returns : goal.returns
returns c = search laws
