-- `relations::reader::Reader::single`, `and_chain` and `or_chain`: what is left to open falls, or the chain gets shorter; each loop has read so far.
use Prim.Native.Nat.{◌+◌, ◌*◌, ◌-◌}
use lib.ListN.{length}
use Rattle.relation_truth.specs.Told.{truth_in}
use Rattle.relation_truth.specs.Values.{held_in}
use Rattle.relations.proofs.ChainLaws.{AndSo, OrSo}
use Rattle.relations.proofs.reader.Reader.+and_chain_or_chain_single.Given as goal

abbrev pub decreases-and_chain : goal.decreases-and_chain
decreases-and_chain l = 3 * l.depth + 1

abbrev pub decreases-or_chain : goal.decreases-or_chain
decreases-or_chain l = 3 * l.depth + 2

abbrev pub decreases-single : goal.decreases-single
decreases-single l = 3 * l.depth

abbrev pub invariant-and_chain-loop-one : goal.invariant-and_chain-loop-one
invariant-and_chain-loop-one l = AndSo (held_in l.self.properties.now) (16 - l.depth) l.self.text.now l.at l.from (truth_in l.truth)

abbrev pub decreases-and_chain-loop-one : goal.decreases-and_chain-loop-one
decreases-and_chain-loop-one l = length l.self.text.now - l.from

abbrev pub invariant-or_chain-loop-chain : goal.invariant-or_chain-loop-chain
invariant-or_chain-loop-chain l = OrSo (held_in l.self.properties.now) (16 - l.depth) l.self.text.now l.at l.from (truth_in l.truth)

abbrev pub decreases-or_chain-loop-chain : goal.decreases-or_chain-loop-chain
decreases-or_chain-loop-chain l = length l.self.text.now - l.from
