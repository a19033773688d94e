-- `calendar::bytes::write_stretches` meets its contract: what is written and what is left make up the whole, by the laws `write_..`.
use Rattle.calendar.proofs.ByteLaws.{Writing}
use Rattle.calendar.proofs.bytes.write_stretches.Given as goal

abbrev pub invariant-loop-i : goal.invariant-loop-i
invariant-loop-i l = Writing l.initial.out l.stretches l.out l.i
