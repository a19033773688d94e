-- `write_prices::write_file` meets its contract.
use Rattle.std.proofs.lemmas.Result.{err_from_is_err_and}
use Rattle.write_prices.proofs.CallLaws.{no_book, unfit, no_room, all_written}
use Rattle.write_prices.proofs.write_file.Goals as goal

pub returns-then-not-is_book : goal.returns-then-not-is_book
returns-then-not-is_book c = rw c.into.ensures (no_book c.args.book.now c.args.out.now c.is_book.ensures c.if-not-is_book.true)

pub returns-in_err-size : goal.returns-in_err-size
returns-in_err-size c = let p = err_from_is_err_and c.from_residual.result c.from_residual.ensures.1 in rw (p.1, p.2) (unfit c.args.book.now c.args.out.now c.is_book.ensures c.if-not-is_book.false c.in_err-size.ensures)

pub returns-then-out-size : goal.returns-then-out-size
returns-then-out-size c = rw c.into-then-out-size.ensures (no_room c.args.book.now c.args.out.now c.is_book.ensures c.if-not-is_book.false c.in_ok-size.ensures c.if-out-size.true)

pub returns : goal.returns
returns c =
    all_written
    c.args.book.now
    c.args.out.now
    c.is_book.ensures
    c.if-not-is_book.false
    c.in_ok-size.ensures
    c.if-out-size.false
    c.write_lines.ensures
