-- `properties::properties_end` meets its contract: the properties that are left decide about all of them, by the laws `count_..`.
use Prim.Native.Nat.{◌-◌}
use Rattle.rules.specs.Question.{property}
use Rattle.layout.specs.Counted.{Left}
use Rattle.properties.specs.Properties.{property_at, property_stop}
use Rattle.properties.proofs.properties_end.Given as goal

abbrev pub invariant-loop : goal.invariant-loop
invariant-loop l = Left property property_at property_stop l.s l.at l.end (l.n - l.counter)
