-- `lookup::roundings::first_spot` meets its contract: by `spot_here` and `spot_kept`.
use borrow.Author.Rules.{rules}
use Rattle.lookup.proofs.LookupLaws.{spot_here, spot_kept}
use Rattle.lookup.proofs.roundings.first_spot.Goals as goal

ruleset laws = (rules, spot_here, spot_kept)

pub returns-then-spot-here : goal.returns-then-spot-here
returns-then-spot-here c = search laws

pub returns-else-spot-here : goal.returns-else-spot-here
returns-else-spot-here c = search laws
