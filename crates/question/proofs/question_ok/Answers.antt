-- `question::question_ok` meets its contract: each way out by its law: no head, no article, cut off, no granted names, no properties, and the tests of all fields.
use native.Mathlib.Omega.{arith}
use borrow.Author.Rules.{rules}
use Rattle.question.proofs.QuestionLaws.{question_short, question_nameless, question_cut, question_ungranted, question_endless, question_is}
use Rattle.question.proofs.question_ok.Goals as goal

ruleset laws = (rules, question_cut, question_is)

pub returns-then-s-lt5 : goal.returns-then-s-lt5
returns-then-s-lt5 c = question_short _ c.if-s-lt5.true

pub returns-in_default : goal.returns-in_default
returns-in_default c = question_nameless _ (omega arith) c.in_default.ensures (omega arith)

pub returns-then-s-a-lt12 : goal.returns-then-s-a-lt12
returns-then-s-a-lt12 c = question_cut _ (omega arith) c.in-Some.ensures.0 c.if-s-a-lt12.true

pub returns-in_default-granted_end : goal.returns-in_default-granted_end
returns-in_default-granted_end c = question_ungranted _ (omega arith) c.in-Some.ensures.0 (omega arith) c.in_default-granted_end.ensures (omega arith)

pub returns-in_default-properties_end : goal.returns-in_default-properties_end
returns-in_default-properties_end c =
    question_endless _ (omega arith) c.in-Some.ensures.0 (omega arith) c.in-Some-granted_end.ensures.0 c.in_default-properties_end.ensures (omega arith)

pub returns : goal.returns
returns c =
    question_is _ (omega arith) c.in-Some.ensures.0 (omega arith) c.in-Some-granted_end.ensures.0 c.in-Some-properties_end.ensures.0 c.in-Some.ensures.1 c.in-Some-granted_end.ensures.1
    c.question_head_ok.ensures c.terms_ok.ensures
