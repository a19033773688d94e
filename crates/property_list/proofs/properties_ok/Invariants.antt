-- `property_list::properties_ok` meets its contract: the properties that are left decide about the list, by the laws `list_..`.
use Prim.Native.Nat.{◌-◌}
use Rattle.property_list.proofs.ListLaws.{Left}
use Rattle.property_list.proofs.properties_ok.Given as goal

abbrev pub invariant-loop : goal.invariant-loop
invariant-loop l = Left l.p l.end (l.n - l.counter)
