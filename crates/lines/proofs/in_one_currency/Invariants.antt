-- `lines::in_one_currency` meets its contract: the flag and the rows that are left say the whole, by the laws `compare_..`.
use lib.ListN.{length}
use Rattle.rules.specs.Question.{letters_of}
use Rattle.lines.proofs.WalkLaws.{Comparing}
use Rattle.lines.proofs.in_one_currency.Given as goal

abbrev pub invariant-loop-pick : goal.invariant-loop-pick
invariant-loop-pick l = Comparing (letters_of l.c) l.picks (length l.picks) l.ok l.pick-index
