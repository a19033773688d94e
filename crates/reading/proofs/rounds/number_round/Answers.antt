-- `reading::rounds::number_round` meets its contract: from each line on, what is left of the round comes to the same.
use borrow.Author.Rules.{rules}
use Rattle.reading.proofs.NumberedLaws.{round_start, round_ready, round_on, round_end, round_long}
use Rattle.reading.proofs.rounds.number_round.Goals as goal

ruleset laws = (rules, round_start, round_ready, round_on, round_long)

pub loop-at-init : goal.loop-at-init
loop-at-init c = search laws

pub number_line-requires-clause-ready : goal.number_line-requires-clause-ready
number_line-requires-clause-ready c = search laws

pub loop-at-preserved : goal.loop-at-preserved
loop-at-preserved c = search laws

pub returns : goal.returns
returns c = round_end c.loop-at.invariant c.loop-at-test.false
