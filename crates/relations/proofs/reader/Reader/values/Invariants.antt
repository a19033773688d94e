-- `relations::reader::Reader::values` meets its contract: constants so far, by the laws `values_..`.
use Prim.Native.Nat.{◌-◌}
use lib.ListN.{length}
use Rattle.relation_truth.specs.Told.{truth_in}
use Rattle.relation_truth.specs.Values.{value_in}
use Rattle.relations.proofs.AmongLaws.{ValuesSo}
use Rattle.relations.proofs.reader.Reader.values.Given as goal

abbrev pub invariant-loop-one : goal.invariant-loop-one
invariant-loop-one l = ValuesSo (value_in l.value) l.self.text.now l.at l.from (truth_in l.truth)

abbrev pub decreases-loop-one : goal.decreases-loop-one
decreases-loop-one l = length l.self.text.now - l.from
