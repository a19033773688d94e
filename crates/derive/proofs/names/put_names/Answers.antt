-- `derive::names::put_names` meets its contract: name behind name, by the laws `name_..`.
use Rattle.std.proofs.Common.{arith}
use Rattle.derive.proofs.WriteLaws.{name_room, name_put, names_end}
use Rattle.derive.proofs.names.put_names.Goals as goal

pub put_name-end-requires-clause-room_for : goal.put_name-end-requires-clause-room_for
put_name-end-requires-clause-room_for c = name_room c.loop-name.invariant (omega arith)

pub loop-name-preserved : goal.loop-name-preserved
loop-name-preserved c = name_put c.loop-name.invariant (omega arith) c.put_name-end.ensures

pub returns : goal.returns
returns c = names_end c.loop-name.invariant (omega arith)
