-- `choice::block::row_through` meets its contract: one way out for each of the laws `row_never`, `row_unnoted` and `row_shared`.
use native.Mathlib.Omega.{arith}
use borrow.Author.Rules.{rules}
use Rattle.choice.proofs.PassingLaws.{row_passes}
use Rattle.choice.proofs.BlockLaws.{row_never, row_shared, row_unnoted}
use Rattle.choice.proofs.block.row_through.Goals as goal

ruleset laws = (rules, row_never)

pub returns-then-last-row : goal.returns-then-last-row
returns-then-last-row c = search laws

pub returns-in_default : goal.returns-in_default
returns-in_default c = row_unnoted _ _ _ _ _ _ c.in_default.ensures

pub returns-then-counts : goal.returns-then-counts
returns-then-counts c =
    row_shared _ _ _ _ _ _ (row_passes _ _ _ _ _ c.counts.ensures c.if-counts.true c.in-Some.ensures c.placed.ensures) (omega arith)
