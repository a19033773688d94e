-- `derive::names::put_names` meets its contract: name behind name, by the laws `name_..`.
use Rattle.derive.proofs.WriteLaws.{Naming}
use Rattle.derive.proofs.names.put_names.Given as goal

abbrev pub invariant-loop-name : goal.invariant-loop-name
invariant-loop-name l = Naming l.initial.out l.at l.version l.text l.names l.out l.end l.name-index
