-- `wanted::table::Table::of` meets its contract: name after name, by the laws `filling_..`.
use lib.ListN.{length}
use Rattle.wanted.proofs.TableLaws.{Filling}
use Rattle.wanted.proofs.table.Table.of.Given as goal

abbrev pub invariant-loop-j : goal.invariant-loop-j
invariant-loop-j l = Filling l.bytes l.names (length l.names) l.heads l.links l.j
