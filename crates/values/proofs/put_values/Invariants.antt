-- `values::put_values` meets its contract: what is left to write, written where the loop stands, makes up the whole, by the laws `put_..`.
use Prim.Native.Nat.{◌-◌}
use Rattle.records.specs.Ensures.{scheme_in}
use Rattle.values.proofs.PutLaws.{Putting}
use Rattle.values.proofs.put_values.Given as goal

abbrev pub invariant-loop : goal.invariant-loop
invariant-loop l = Putting l.initial.out l.base l.q (scheme_in l.t l.scheme) l.from l.count l.out l.at l.p (l.count - l.counter)
