-- `grants::look` meets its contract: the entries that are left hold the place, by the laws `look_..`.
use Rattle.grants.proofs.EntryLaws.{Looking}
use Rattle.grants.proofs.look.Given as goal

abbrev pub invariant-loop-i : goal.invariant-loop-i
invariant-loop-i l = Looking l.g l.n l.name l.i
