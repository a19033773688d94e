-- `packaging::answered` meets its contract: 3 by `call_3`, the rest by `call_on`.
use Rattle.std.proofs.lemmas.Result.{err_from_is_err_and}
use Rattle.grants.proofs.FillLaws.{names_count}
use Rattle.packaging.proofs.CallLaws.{book_starts, found_held, call_3, call_on}
use Rattle.packaging.proofs.answered.Goals as goal

pub walk-requires-clause-between : goal.walk-requires-clause-between
walk-requires-clause-between c = book_starts c.requires.b_value

pub returns-in_err-found : goal.returns-in_err-found
returns-in_err-found c =
    let p = err_from_is_err_and c.from_residual.result c.from_residual.ensures.1 in
    rw (p.1, p.2) (call_3 c.args.b.now c.args.q.now c.requires.b_value c.ask_of-ask.ensures c.grants_of-table.ensures c.bytes_of.ensures c.in_err-found.ensures)

pub from_spots-requires : goal.from_spots-requires
from_spots-requires c = found_held c.in_ok-found.ensures c.grants_of-table.ensures (names_count _ _ _ _)

pub returns : goal.returns
returns c =
    call_on c.args.b.now c.args.q.now c.requires.b_value c.ask_of-ask.ensures c.grants_of-table.ensures c.bytes_of.ensures c.in_ok-found.ensures c.from_spots.ensures
