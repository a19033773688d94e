-- `wanted::table::Table::find` meets its contract: from the last name with the mark to the first, by the laws `find_..`.
use lib.ListN.{length}
use Rattle.wanted.proofs.TableLaws.{Finding}
use Rattle.wanted.proofs.table.Table.find.Given as goal

abbrev pub invariant-loop-c : goal.invariant-loop-c
invariant-loop-c l = Finding l.self.bytes.now l.self.names.now (length l.self.names.now) l.name l.c

abbrev pub decreases-loop-c : goal.decreases-loop-c
decreases-loop-c l = l.c
