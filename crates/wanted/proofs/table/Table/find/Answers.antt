-- `wanted::table::Table::find` meets its contract: from the last name with the mark to the first, by the laws `find_..`.
use Rattle.wanted.proofs.TableLaws.{find_hit, find_next}
use Rattle.wanted.proofs.table.Table.find.Goals as goal

pub returns-then-same_bytes : goal.returns-then-same_bytes
returns-then-same_bytes c = find_hit c.args.self.now.filled _ c.loop-c.invariant c.loop-c-test.true c.same_bytes.ensures c.if-same_bytes.true

pub loop-c-preserved : goal.loop-c-preserved
loop-c-preserved c = find_next c.args.self.now.filled _ c.loop-c.invariant c.loop-c-test.true c.same_bytes.ensures c.if-same_bytes.false
