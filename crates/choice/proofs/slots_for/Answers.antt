-- `choice::slots_for` meets its contract: the slots, once they have seen the records that are left, hold what all of them leave, by the laws `walk_..`.
use borrow.Author.Rules.{rules}
use Rattle.records.proofs.TestLaws.{accepted}
use Rattle.choice.proofs.WalkLaws.{walk_start, walk_here, walk_turn, walk_end}
use Rattle.choice.proofs.slots_for.Goals as goal

ruleset laws = (rules, accepted, walk_start, walk_here, walk_turn, walk_end)

pub loop-at-init : goal.loop-at-init
loop-at-init c = search laws

pub record_stop-end-requires : goal.record_stop-end-requires
record_stop-end-requires c = search laws

pub loop-at-preserved : goal.loop-at-preserved
loop-at-preserved c = search laws

pub returns : goal.returns
returns c = search laws
