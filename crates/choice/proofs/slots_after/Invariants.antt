-- `choice::slots_after` meets its contract: what the noted rows that are left make of the slots is what all make of the first, by the laws `add_..`.
use Rattle.choice.proofs.SharedLaws.{Adding}
use Rattle.choice.proofs.slots_after.Given as goal

abbrev pub invariant-loop-at : goal.invariant-loop-at
invariant-loop-at l = Adding l.w l.initial.slots l.noted l.asking.article.now l.asking.table.now l.asking.terms l.slots l.at-index
