-- `printing::output::put_stretches` meets its contract: the lines so far stand in front, by the laws `print_..`.
use borrow.Author.Rules.{rules}
use Rattle.printing.proofs.OutputLaws.{print_start, print_room, print_again, print_end}
use Rattle.printing.proofs.output.put_stretches.Goals as goal

ruleset laws = (rules, print_start, print_room, print_again, print_end)

pub loop-stretch-init : goal.loop-stretch-init
loop-stretch-init c = search laws

pub put_stretch-at-requires : goal.put_stretch-at-requires
put_stretch-at-requires c = search laws

pub loop-stretch-preserved : goal.loop-stretch-preserved
loop-stretch-preserved c = search laws

pub returns : goal.returns
returns c = search laws
