-- `survey::Sighted::after` meets its contract: each kind by its law `noted_..`.
use borrow.Author.Rules.{rules}
use Rattle.records.proofs.FieldLaws.{accepted_long, of_kind}
use Rattle.survey.proofs.SurveyLaws.{noted_row, noted_rounding, noted_other}
use Rattle.survey.proofs.Sighted.after.Goals as goal

ruleset laws = (rules, accepted_long, of_kind, noted_row, noted_rounding, noted_other)

pub bounds-t-0 : goal.bounds-t-0
bounds-t-0 c = search laws

pub is_own-own-requires : goal.is_own-own-requires
is_own-own-requires c = search laws

pub returns-then-t-eq2 : goal.returns-then-t-eq2
returns-then-t-eq2 c = search laws

pub returns-then-is_rounding : goal.returns-then-is_rounding
returns-then-is_rounding c = search laws

pub returns : goal.returns
returns c = search laws
