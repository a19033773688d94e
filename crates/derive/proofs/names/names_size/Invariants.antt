-- `derive::names::names_size` meets its contract: name behind name, by the laws `sizes_..`.
use Rattle.derive.proofs.WriteLaws.{Sizing}
use Rattle.derive.proofs.names.names_size.Given as goal

abbrev pub invariant-loop-name : goal.invariant-loop-name
invariant-loop-name l = Sizing l.version l.names l.size l.name-index
