-- `grants::grants_of` meets its contract: the names that have come in and those that are left make up the whole, by the laws `fill_..`.
use Rattle.grants.proofs.FillLaws.{Filling}
use Rattle.grants.proofs.grants_of.Given as goal

abbrev pub invariant-loop-k : goal.invariant-loop-k
invariant-loop-k l = Filling l.version l.q l.at l.n l.table l.here l.k
