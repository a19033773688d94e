-- `reading::rounds::number_rows` meets its contract: each round gives numbers to more names, until none is left.
use borrow.Author.Rules.{rules}
use Rattle.reading.proofs.NumberedLaws.{numbering_start, numbering_here, numbering_on, numbering_less, numbering_end}
use Rattle.reading.proofs.rounds.number_rows.Goals as goal

ruleset laws = (rules, numbering_start, numbering_here, numbering_on, numbering_less, numbering_end)

pub loop-c-init : goal.loop-c-init
loop-c-init c = search laws

pub number_round-requires : goal.number_round-requires
number_round-requires c = search laws

pub loop-c-smaller : goal.loop-c-smaller
loop-c-smaller c = search laws

pub loop-c-preserved : goal.loop-c-preserved
loop-c-preserved c = search laws

pub returns : goal.returns
returns c = search laws
