-- `survey::survey` meets its contract: what was found of the records gone by, by the laws `survey_..`.
use mathlib.Core.Path.{◌≡◌}
use borrow.Author.Rules.{rules}
use Rattle.std.specs.Prelude.{None}
use Rattle.survey.proofs.SurveyLaws.{survey_header, survey_start, survey_here, survey_bad, survey_low, survey_less, survey_accepted, survey_turn, survey_end}
use Rattle.survey.proofs.survey.Goals as goal

ruleset laws = (rules, survey_header, survey_start, survey_here, survey_bad, survey_low, survey_less, survey_accepted, survey_turn, survey_end)

pub returns-then-not-book_head_ok : goal.returns-then-not-book_head_ok
returns-then-not-book_head_ok c = search laws

pub loop-at-init : goal.loop-at-init
loop-at-init c = search laws

pub returns-in_err-end : goal.returns-in_err-end
returns-in_err-end c =
    let e : c.from_residual.result ≡ None = search rules in
    let r = c.in_err-end.ensures {u = tt} in
    rw e (search laws)

pub after-seen-requires-clause-accepted : goal.after-seen-requires-clause-accepted
after-seen-requires-clause-accepted c = let r = c.in_ok-end.ensures {u = tt} in search laws

pub note_spot-requires-clause-accepted : goal.note_spot-requires-clause-accepted
note_spot-requires-clause-accepted c = let r = c.in_ok-end.ensures {u = tt} in search laws

pub loop-at-smaller : goal.loop-at-smaller
loop-at-smaller c = let r = c.in_ok-end.ensures {u = tt} in search laws

pub loop-at-preserved : goal.loop-at-preserved
loop-at-preserved c = let r = c.in_ok-end.ensures {u = tt} in search laws

pub returns : goal.returns
returns c = search laws
