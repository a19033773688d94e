-- `stretches::walk::stretches_of` meets its contract: the stretches closed, the one in hand and the days to come make up the whole, by
-- the laws `by_..`.
use borrow.Author.Rules.{rules}
use Rattle.stretches.proofs.WalkLaws.{by_start, by_grown, by_begun, by_end}
use Rattle.stretches.proofs.walk.stretches_of.Goals as goal
use Rattle.stretches.proofs.walk.stretches_of.Goals.{in-Grown, in-Begun}

ruleset laws = (rules, by_start, by_end)

pub loop-i-init : goal.loop-i-init
loop-i-init c = search laws

pub loop-i-preserved : goal.loop-i-preserved
loop-i-preserved c =
    elim c.match-turn.branch [
      | in-Grown w ↦ rw (w.list-is, w.n-is) (by_grown _ _ _ c.loop-i.invariant c.loop-i-test.true w.in-Grown.ensures)
      | in-Begun w ↦ rw (w.list-is, w.n-is) (by_begun _ _ _ c.loop-i.invariant c.loop-i-test.true w.in-Begun.ensures)
    ]

pub returns : goal.returns
returns c = search laws
