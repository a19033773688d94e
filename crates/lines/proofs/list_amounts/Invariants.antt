-- `lines::list_amounts` meets its contract: before each line the amounts so far, the two sums in hand and the flag fix the rest,
-- by the laws `list_..` and `compare_..`.
use lib.ListN.{length}
use Rattle.rules.specs.Question.{letters_of}
use Rattle.lines.proofs.AmountLaws.{Judging}
use Rattle.lines.proofs.list_amounts.Given as goal

abbrev pub invariant-loop-i : goal.invariant-loop-i
invariant-loop-i l = Judging (letters_of l.c) l.picks (length l.picks) l.listed l.one l.base.0 l.total.0 l.i
