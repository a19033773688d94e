-- `quotes::put_doubled` meets its contract.
use Rattle.quotes.proofs.NameLaws.{Twofold}
use Rattle.quotes.proofs.put_doubled.Given as goal

abbrev pub invariant-loop-byte : goal.invariant-loop-byte
invariant-loop-byte l = Twofold l.initial.out l.at l.s l.out l.to l.byte-index
