-- `price::call::priced` meets its contract: each way out by its law, from what the functions before it ensure.
use Rattle.std.proofs.lemmas.Result.{err_from_is_err_and}
use Rattle.price.proofs.CallLaws.{kept_out, no_price, no_room, has_answer}
use Rattle.price.proofs.call.priced.Goals as goal

pub returns-in_err-entered : goal.returns-in_err-entered
returns-in_err-entered c = let p = err_from_is_err_and c.from_residual.result c.from_residual.ensures.1 in rw (p.1, p.2) (kept_out _ c.in_err-entered.ensures)

pub returns-in_err-told : goal.returns-in_err-told
returns-in_err-told c = let p = err_from_is_err_and c.from_residual-in_err-told.result c.from_residual-in_err-told.ensures.1 in rw (p.1, p.2) (no_price _ c.in_ok-entered.ensures c.in_err-told.ensures)

pub returns-in-Some : goal.returns-in-Some
returns-in-Some c = has_answer _ c.in_ok-entered.ensures c.in_ok-told.ensures c.in-Some.is

pub returns-in-None : goal.returns-in-None
returns-in-None c = no_room _ c.in_ok-entered.ensures c.in_ok-told.ensures c.in-None.is
