-- `relations::names::names_of` meets its contract: the assignments so far and what they derive, by the laws `names_..`.
use Prim.Native.Nat.{◌-◌}
use lib.ListN.{length}
use Rattle.relation_truth.specs.Values.{held_in}
use Rattle.relations.proofs.TextLaws.{NamesSo}
use Rattle.relations.proofs.names.names_of.Given as goal

abbrev pub invariant-loop-one : goal.invariant-loop-one
invariant-loop-one l = NamesSo (held_in l.properties) l.text l.at l.names

abbrev pub decreases-loop-one : goal.decreases-loop-one
decreases-loop-one l = length l.text - l.at
