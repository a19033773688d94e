-- `lookup::roundings::flag_open` meets its contract: each number gone through is looked for if it has no spot, by the laws `opening_..`.
use Rattle.lookup.proofs.LookupLaws.{Opening}
use Rattle.lookup.proofs.roundings.flag_open.Given as goal

abbrev pub invariant-loop-i : goal.invariant-loop-i
invariant-loop-i l = Opening l.numbers l.spots l.low l.any l.i
