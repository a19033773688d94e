-- `lookup::roundings::flag_open` meets its contract: each number gone through is looked for if it has no spot, by the laws `opening_..`.
use borrow.Author.Rules.{rules}
use Rattle.lookup.proofs.LookupLaws.{opening_start, opening_again, opening_end}
use Rattle.lookup.proofs.roundings.flag_open.Goals as goal

ruleset laws = (rules, opening_start, opening_again, opening_end)

pub loop-i-init : goal.loop-i-init
loop-i-init c = search laws

pub loop-i-preserved : goal.loop-i-preserved
loop-i-preserved c = search laws

pub returns : goal.returns
returns c = search laws
