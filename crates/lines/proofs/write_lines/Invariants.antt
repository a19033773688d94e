-- `lines::write_lines` meets its contract: what is written and what is left make up the whole, by the laws `write_..`.
use lib.ListN.{length}
use Rattle.lines.proofs.ByteLaws.{Writing}
use Rattle.lines.proofs.write_lines.Given as goal

abbrev pub invariant-loop-i : goal.invariant-loop-i
invariant-loop-i l = Writing l.initial.out l.at l.picks l.amounts (length l.picks) l.out l.i
