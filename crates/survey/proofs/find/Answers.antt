-- `survey::find` meets its contract: what was found of the records gone by, by the laws `find_..`.
use borrow.Author.Rules.{rules}
use Rattle.records.proofs.TestLaws.{accepted}
use Rattle.survey.proofs.SurveyLaws.{find_start, find_here, find_long, find_turn, find_end}
use Rattle.survey.proofs.find.Goals as goal

ruleset laws = (rules, accepted, find_start, find_here, find_long, find_turn, find_end)

pub loop-at-init : goal.loop-at-init
loop-at-init c = search laws

pub record_stop-end-requires : goal.record_stop-end-requires
record_stop-end-requires c = search laws

pub after-seen-requires : goal.after-seen-requires
after-seen-requires c = search laws

pub note_spot-requires : goal.note_spot-requires
note_spot-requires c = search laws

pub loop-at-preserved : goal.loop-at-preserved
loop-at-preserved c = search laws

pub returns : goal.returns
returns c = search laws
