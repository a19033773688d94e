-- `survey::find` meets its contract: what was found of the records gone by, by the laws `find_..`.
use Prim.Native.Nat.{◌-◌}
use lib.ListN.{length}
use Rattle.survey.proofs.SurveyLaws.{Passed}
use Rattle.survey.proofs.find.Given as goal

abbrev pub invariant-loop-at : goal.invariant-loop-at
invariant-loop-at l = Passed l.b l.article l.sort l.seen l.noted l.at

abbrev pub decreases-loop-at : goal.decreases-loop-at
decreases-loop-at l = length l.b - l.at
