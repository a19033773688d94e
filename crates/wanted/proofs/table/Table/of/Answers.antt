-- `wanted::table::Table::of` meets its contract: name after name, by the laws `filling_..`.
use Rattle.wanted.proofs.TableLaws.{filling_start}
use Rattle.wanted.proofs.table.Table.of.Goals as goal

pub loop-j-init : goal.loop-j-init
loop-j-init c = filling_start _ _ _
