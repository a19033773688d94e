-- `basket::answers::put_answer` meets its contract: five pieces, one behind the other, by `answer_put`.
use mathlib.Core.Path.{◌≡◌, sym}
use native.Mathlib.Omega.{arith}
use lib.ListN.{length}
use borrow.Author.Rules.{rules}
use Rattle.basket.proofs.AnswerLaws.{answer_put}
use Rattle.basket.proofs.answers.put_answer.Goals as goal

pub put_bytes-requires : goal.put_bytes-requires
put_bytes-requires c =
    let three : 3 ≡ length c.args.answer.currency = search rules in
    omega (arith, three, c.put_totals.ensures.long)

pub returns : goal.returns
returns c =
    let three : 3 ≡ length c.args.answer.currency = search rules in
    answer_put c.args.answer (sym three) c.put_totals.ensures c.put_bytes.ensures
    c.put_eight.ensures c.put_four.ensures c.put_run.ensures
