-- `wanted::marks::mark` meets its contract: the mark so far and what is left are the whole, by the laws `marking_..`.
use borrow.Author.Rules.{rules}
use Rattle.wanted.proofs.MarkLaws.{marking_start, marking_again, marking_end}
use Rattle.wanted.proofs.marks.mark.Goals as goal

ruleset laws = (rules, marking_start, marking_again, marking_end)

pub loop-b-init : goal.loop-b-init
loop-b-init c = search laws

pub loop-b-preserved : goal.loop-b-preserved
loop-b-preserved c = search laws

pub returns : goal.returns
returns c = search laws
