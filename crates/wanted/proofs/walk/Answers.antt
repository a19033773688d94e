-- `wanted::walk` meets its contract: the entry of each article holds what was seen of it so far, by the laws `walking_..`.
use Rattle.wanted.proofs.WalkLaws.{walking_start, walking_end, walking_here, walking_turn}
use Rattle.wanted.proofs.walk.Goals as goal

pub loop-at-init : goal.loop-at-init
loop-at-init c = walking_start _ _ _ _ c.requires c.args.table.now.listed c.first-last.ensures

pub record_stop-end-requires : goal.record_stop-end-requires
record_stop-end-requires c = walking_here _ _ _ _ c.loop-at.invariant c.loop-at-test.true

pub loop-at-preserved : goal.loop-at-preserved
loop-at-preserved c = walking_turn _ _ _ _ c.loop-at.invariant c.loop-at-test.true c.record_stop-end.ensures c.after-last.ensures c.keep.ensures c.roundings_after-roundings.ensures c.note_spot.ensures

pub returns : goal.returns
returns c = walking_end _ _ _ _ c.loop-at.invariant c.loop-at-test.false
