-- `derive::derive` meets its contract: each way out by its law.
use Rattle.std.proofs.Common.{arith}
use Rattle.derive.proofs.CallLaws.{stop_low, not_asked, no_properties, not_derived, names_fitting, derived_put}
use Rattle.derive.proofs.derive.Goals as goal

pub returns-in_default : goal.returns-in_default
returns-in_default c = not_asked _ _ _ _ c.in_default.ensures (record { is = c.refused.ensures })

pub returns-then-not-properties_ok : goal.returns-then-not-properties_ok
returns-then-not-properties_ok c = no_properties _ _ _ _ c.in-Some.ensures c.properties_ok.ensures c.if-not-properties_ok.true (record { is = c.refused-then-not-properties_ok.ensures })

pub put_if_room-requires : goal.put_if_room-requires
put_if_room-requires c = names_fitting _ _ _ c.args.out.now c.in-Some.ensures c.properties_ok.ensures c.if-not-properties_ok.false c.in-Ok.ensures c.parts.ensures

pub overflow_add-stop : goal.overflow_add-stop
overflow_add-stop c = omega (arith, stop_low c.in-Err.ensures)

pub returns-in-Ok : goal.returns-in-Ok
returns-in-Ok c = derived_put _ _ _ _ c.in-Some.ensures c.properties_ok.ensures c.if-not-properties_ok.false c.in-Ok.ensures c.parts.ensures c.put_if_room.ensures

pub returns-in-Err : goal.returns-in-Err
returns-in-Err c = not_derived _ _ _ _ c.in-Some.ensures c.properties_ok.ensures c.if-not-properties_ok.false c.in-Err.ensures (record { is = c.refused-in-Err.ensures })
