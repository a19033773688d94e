-- `choice::shared_for` meets its contract: what is shared, once the records that are left have gone by, holds what all of them leave, by the laws `block_..`.
use borrow.Author.Rules.{rules}
use Rattle.records.proofs.TestLaws.{accepted}
use Rattle.choice.proofs.SharedLaws.{block_start, block_here, block_turn, block_end}
use Rattle.choice.proofs.shared_for.Goals as goal

ruleset laws = (rules, accepted, block_start, block_here, block_turn, block_end)

pub loop-at-init : goal.loop-at-init
loop-at-init c = search laws

pub record_stop-end-requires : goal.record_stop-end-requires
record_stop-end-requires c = search laws

pub loop-at-preserved : goal.loop-at-preserved
loop-at-preserved c = search laws

pub returns : goal.returns
returns c = search laws
