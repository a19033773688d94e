-- `printing::input::own_length` meets its contract: the bytes read so far make the number, by the laws `read_..`.
use Rattle.printing.specs.Input.{Reading}
use Rattle.printing.proofs.input.own_length.Given as goal

abbrev pub invariant-loop-b : goal.invariant-loop-b
invariant-loop-b l = Reading l.front l.n l.b-index
