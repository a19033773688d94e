-- `property_list::held_end` meets its contract: behind a name and a kind byte it ends with its value, by `held_ends`.
use Prim.Native.Nat.{◌+◌}
use native.Mathlib.Omega.{arith}
use Rattle.layout.proofs.EndLaws.{end_as}
use lib.ListN.{get_or}
use Rattle.property_list.specs.Listed.{ValueEnds, HeldEnds}
use Rattle.property_list.proofs.HeldLaws.{held_ends}
use Rattle.property_list.proofs.held_end.Goals as goal

pub returns : goal.returns
returns c =
    let s = c.args.s.now in
    let stop = c.in_ok-stop in
    end_as (ValueEnds (get_or s stop.stop 0) s (stop.stop + 1)) (HeldEnds s c.args.at) _ c.value_end.ensures (λ r q. held_ends stop.ensures.0 stop.ensures.1 (omega arith) (omega arith) q)
