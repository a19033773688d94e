-- `printing::output::put_refusal` meets its contract: the word, the number, the line's end (`refusal_prints`).
use native.Mathlib.Omega.{arith}
use Rattle.printing.proofs.OutputLaws.{number_room, end_room, refusal_prints}
use Rattle.printing.proofs.output.put_refusal.Goals as goal

pub put_digits-end-requires : goal.put_digits-end-requires
put_digits-end-requires c =
    number_room c.requires c.args.number c.put_bytes-behind.ensures

pub put_bytes-requires : goal.put_bytes-requires
put_bytes-requires c =
    omega (arith, end_room c.requires c.args.number c.put_bytes-behind.ensures c.put_digits-end.ensures)

pub returns : goal.returns
returns c =
    refusal_prints c.requires c.args.number c.put_bytes-behind.ensures c.put_digits-end.ensures c.put_bytes.ensures
