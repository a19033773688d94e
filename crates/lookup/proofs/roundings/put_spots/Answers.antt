-- `lookup::roundings::put_spots` meets its contract: spot after spot, by the laws `replace_..`.
use borrow.Author.Rules.{rules}
use Rattle.lookup.proofs.LookupLaws.{replace_start, replace_again, replace_end}
use Rattle.lookup.proofs.roundings.put_spots.Goals as goal

ruleset laws = (rules, replace_start, replace_again, replace_end)

pub loop-i-init : goal.loop-i-init
loop-i-init c = search laws

pub first_spot-requires : goal.first_spot-requires
first_spot-requires c = search laws

pub loop-i-preserved : goal.loop-i-preserved
loop-i-preserved c = search laws

pub returns : goal.returns
returns c = search laws
