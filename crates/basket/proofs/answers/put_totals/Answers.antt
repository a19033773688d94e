-- `basket::answers::put_totals` meets its contract: three fields, one behind the other, by `totals_put`.
use borrow.Author.Rules.{rules}
use mir.Syntax.{w64}
use mir.Val.{SFits}
use mir.ValLaws.{to_z-of_z}
use Rattle.basket.proofs.AnswerLaws.{totals_put}
use Rattle.basket.proofs.answers.put_totals.Goals as goal

pub returns : goal.returns
returns c =
    totals_put c.args.answer c.put_run.ensures
    (let fits : SFits w64 c.args.answer.unit = search rules in simp (to_z-of_z, fits) at c.put_signed_eight.ensures)
    (let fits : SFits w64 c.args.answer.total = search rules in simp (to_z-of_z, fits) at c.put_signed_eight-2.ensures)
