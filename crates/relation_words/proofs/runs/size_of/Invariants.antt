-- `relation_words::runs::size_of` meets its contract: the digits so far, by the laws `sizing_..`.
use Rattle.relation_words.proofs.DigitLaws.{Sizing}
use Rattle.relation_words.proofs.runs.size_of.Given as goal

abbrev pub invariant-loop-b : goal.invariant-loop-b
invariant-loop-b l = Sizing l.digits l.b-index l.size
