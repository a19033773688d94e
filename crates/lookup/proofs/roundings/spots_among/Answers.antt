-- `lookup::roundings::spots_among` meets its contract: each number is found, or the noted spots left have what all have, by the laws `among_..`.
use borrow.Author.Rules.{rules}
use Rattle.lookup.proofs.LookupLaws.{among_start, among_held, among_again, among_end}
use Rattle.lookup.proofs.roundings.spots_among.Goals as goal

ruleset laws = (rules, among_start, among_held, among_again, among_end)

pub loop-spot-init : goal.loop-spot-init
loop-spot-init c = search laws

pub rounding_at-rounding-requires : goal.rounding_at-rounding-requires
rounding_at-rounding-requires c = search laws

pub put_spots-requires : goal.put_spots-requires
put_spots-requires c = search laws

pub loop-spot-preserved : goal.loop-spot-preserved
loop-spot-preserved c = search laws

pub returns : goal.returns
returns c = search laws
