-- `layout::strings::put_bytes` meets its contract: what is stored and what is left make up the whole, by the laws `store_..`.
use Rattle.layout.proofs.StoreLaws.{Storing}
use Rattle.layout.proofs.strings.put_bytes.Given as goal

abbrev pub invariant-loop-i : goal.invariant-loop-i
invariant-loop-i l = Storing l.initial.out l.at l.bytes l.out l.i
