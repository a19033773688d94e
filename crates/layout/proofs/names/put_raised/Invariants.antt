-- `layout::names::put_raised` meets its contract: what is stored and what is left make up the whole, by the laws `store_start` and `raise_..`.
use mathlib.Core.List.{map}
use Rattle.rules.specs.Bytes.{raise}
use Rattle.layout.proofs.StoreLaws.{Storing}
use Rattle.layout.proofs.names.put_raised.Given as goal

abbrev pub invariant-loop-i : goal.invariant-loop-i
invariant-loop-i l = Storing l.initial.out l.at (map raise l.name) l.out l.i
