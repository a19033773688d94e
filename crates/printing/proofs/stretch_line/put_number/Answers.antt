use native.Mathlib.Omega.{arith}
use borrow.Author.Rules.{rules}
use Rattle.printing.proofs.LineLaws.{blank_room, number_blank}
use Rattle.printing.proofs.stretch_line.put_number.Goals as goal

ruleset laws = (rules, blank_room, number_blank)

pub put_digits-end-requires : goal.put_digits-end-requires
put_digits-end-requires c = search laws

pub put_bytes-requires : goal.put_bytes-requires
put_bytes-requires c = omega (arith, blank_room c.args.n c.requires c.put_digits-end.ensures)

pub returns : goal.returns
returns c = search laws
