-- `price::answered::answer_at` meets its contract: 3 by `refuses_3`, 4 to 6 by `refuses_so`, and the price by `has_price`.
use Rattle.std.proofs.lemmas.Result.{err_from_is_err_and}
use Rattle.question.specs.Asked.{ask_in}
use Rattle.price.proofs.ReadyLaws.{price_number, refuses_3, refuses_so, lines_listed, has_price}
use Rattle.price.proofs.answered.answer_at.Goals as goal

pub returns-in_err-window : goal.returns-in_err-window
returns-in_err-window c = let p = err_from_is_err_and c.from_residual.result c.from_residual.ensures.1 in rw (p.1, p.2) (refuses_3 c.requires.ask_is c.requires.found_is c.in_err-window.ensures)

pub priced-requires : goal.priced-requires
priced-requires c = price_number {q = ask_in c.args.question.now c.args.ask} c.quoted-quote.ensures

pub returns-in_err-priced : goal.returns-in_err-priced
returns-in_err-priced c = let p = err_from_is_err_and c.from_residual-in_err-priced.result c.from_residual-in_err-priced.ensures.1 in rw (p.1, p.2) (refuses_so c.requires.ask_is c.requires.found_is c.in_ok-window.ensures c.quoted-quote.ensures c.in_err-priced.ensures)

pub put_if_room-end-requires : goal.put_if_room-end-requires
put_if_room-end-requires c = lines_listed c.requires.ask_is c.requires.found_is c.in_ok-window.ensures c.quoted-quote.ensures c.in_ok-priced.ensures c.rows.ensures

pub returns : goal.returns
returns c = has_price c.requires.ask_is c.requires.found_is c.in_ok-window.ensures c.quoted-quote.ensures c.in_ok-priced.ensures c.rows.ensures c.answer-answer.ensures c.put_if_room-end.ensures
