-- `survey::survey` meets its contract: what was found of the records gone by, by the laws `survey_..`.
use Prim.Native.Nat.{◌-◌}
use lib.ListN.{length}
use Rattle.survey.proofs.SurveyLaws.{Surveying}
use Rattle.survey.proofs.survey.Given as goal

abbrev pub invariant-loop-at : goal.invariant-loop-at
invariant-loop-at l = Surveying l.b l.article l.sort l.seen l.noted l.at

abbrev pub decreases-loop-at : goal.decreases-loop-at
decreases-loop-at l = length l.b - l.at
