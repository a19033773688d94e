-- `basket::filled` meets its contract: 7 by `no_room`, the rest by `all_written`.
use native.Mathlib.Omega.{arith}
use Rattle.basket.proofs.CallLaws.{no_room, all_written}
use Rattle.basket.proofs.filled.Goals as goal

pub returns-then-out-size : goal.returns-then-out-size
returns-then-out-size c = no_room c.requires c.answers_to-answers.ensures c.args.out.now c.if-out-size.true

pub returns : goal.returns
returns c = all_written c.requires c.answers_to-answers.ensures _ (omega (arith, c.if-out-size.false)) c.put_bytes.ensures c.put_lines.ensures.puts
