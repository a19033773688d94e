-- `period::marks::marks_of` meets its contract: the marks made, with the records that are left, are the days of change, by the laws `mark_..`.
use borrow.Author.Rules.{rules}
use Rattle.records.proofs.TestLaws.{accepted}
use Rattle.period.proofs.MarkLaws.{mark_start, mark_here, mark_turn, mark_end}
use Rattle.period.proofs.marks.marks_of.Goals as goal

ruleset laws = (rules, accepted, mark_start, mark_here, mark_turn, mark_end)

pub loop-at-init : goal.loop-at-init
loop-at-init c = search laws

pub record_stop-end-requires : goal.record_stop-end-requires
record_stop-end-requires c = search laws

pub loop-at-preserved : goal.loop-at-preserved
loop-at-preserved c = search laws

pub returns : goal.returns
returns c = search laws
