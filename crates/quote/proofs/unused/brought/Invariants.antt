-- `quote::unused::brought` meets its contract: the flags and the lines that are left say the whole, by the laws `flag_..`.
use lib.ListN.{length}
use Rattle.quote.proofs.UnusedLaws.{Flagging}
use Rattle.quote.proofs.unused.brought.Given as goal

abbrev pub invariant-loop-pick : goal.invariant-loop-pick
invariant-loop-pick l = Flagging l.picks (length l.picks) l.flags l.pick-index
