-- `printing::output::put_stretches` meets its contract: the lines so far stand in front, by the laws `print_..`.
use Rattle.printing.specs.Output.{Printing}
use Rattle.printing.proofs.output.put_stretches.Given as goal

abbrev pub invariant-loop-stretch : goal.invariant-loop-stretch
invariant-loop-stretch l = Printing l.initial.out l.stretches l.out l.at l.stretch-index
