-- `packaging::spots::walk` meets its contract: with the records left, the spot of each place will have the first of all, by the laws `walk_..`.
use borrow.Author.Rules.{rules}
use Rattle.packaging.proofs.WalkLaws.{walk_start, walk_here, walk_accepted, walk_turn, walk_end, walk_unknown}
use Rattle.packaging.proofs.spots.walk.Goals as goal

ruleset laws = (rules, walk_start, walk_here, walk_accepted, walk_turn, walk_end, walk_unknown)

pub loop-at-init : goal.loop-at-init
loop-at-init c = search laws

pub record_stop-end-requires : goal.record_stop-end-requires
record_stop-end-requires c = search laws

pub place_for-i-requires : goal.place_for-i-requires
place_for-i-requires c = search laws

pub place_for-j-requires : goal.place_for-j-requires
place_for-j-requires c = search laws

pub is_article-known-requires : goal.is_article-known-requires
is_article-known-requires c = search laws

pub loop-at-preserved : goal.loop-at-preserved
loop-at-preserved c =
    rw (c.or.ensures, c.or-in-loop-at.ensures) (walk_turn _ _ _ _ c.loop-at.invariant c.loop-at-test.true c.record_stop-end.ensures c.bytes_of-t.ensures c.place_for-i.ensures c.place_for-j.ensures
    c.is_article-known.ensures)

pub returns-then-not-known : goal.returns-then-not-known
returns-then-not-known c = search laws

pub returns : goal.returns
returns c = search laws
