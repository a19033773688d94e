-- `derive::names::names_size` meets its contract: name behind name, by the laws `sizes_..`.
use Rattle.std.proofs.Common.{arith}
use Rattle.derive.proofs.WriteLaws.{sizes_again}
use Rattle.derive.proofs.names.names_size.Goals as goal

pub loop-name-preserved : goal.loop-name-preserved
loop-name-preserved c = sizes_again _ _ c.loop-name.invariant c.requires (omega arith) c.name_size-size.ensures
