-- `stretches::turns::turn` meets its contract: a day that begins a stretch, and one that does not, by the laws `turned_..`.
use Rattle.stretches.proofs.TurnLaws.{outcome_same, outcome_other, turned_new, turned_quiet, turned_same}
use Rattle.stretches.proofs.turns.turn.Goals as goal
use Rattle.stretches.proofs.turns.turn.Goals.{else-due-via-then-due+else-ne, else-due-via-else-due}

pub returns-then-ne : goal.returns-then-ne
returns-then-ne c = turned_new c.if-due.true (outcome_other c.if-ne.ensures) c.opened.ensures

pub returns-else-due : goal.returns-else-due
returns-else-due c =
    elim c.else-due.branch [
      | else-due-via-then-due+else-ne w ↦ turned_same w.if-due.true (outcome_same w.if-ne.ensures) c.longer.ensures
      | else-due-via-else-due w ↦ turned_quiet w.if-due.false c.longer.ensures
    ]
