-- `choice::hands::in_hand` meets its contract: one way for each law `hand_..`.
use mathlib.Core.Path.{sym, ◌∙◌}
use mathlib.Core.Bool.{true≢false}
use Rattle.choice.proofs.HandLaws.{hand_passed, hand_first, hand_better, hand_kept}
use Rattle.choice.proofs.hands.in_hand.Goals as goal
use Rattle.choice.proofs.hands.in_hand.Goals.{then-is_empty, else-is_empty, else-counts-via-then-counts+else-better, else-counts-via-else-counts}

pub returns-then-better : goal.returns-then-better
returns-then-better c =
    elim c.if-is_empty.branch [
      | then-is_empty w ↦ hand_first _ _ c.if-counts.true c.is_empty.ensures w.if-is_empty.true
      | else-is_empty w ↦ hand_better _ _ c.if-counts.true c.is_empty.ensures w.if-is_empty.false w.better.ensures (sym w.value-is ∙ c.if-better.true)
    ]

pub returns-else-counts : goal.returns-else-counts
returns-else-counts c =
    elim c.else-counts.branch [
      | else-counts-via-then-counts+else-better w ↦
          elim w.if-is_empty.branch [
            | then-is_empty v ↦ absurd (true≢false (sym v.if-is_empty.true ∙ sym v.value-is ∙ w.if-better.false))
            | else-is_empty v ↦ hand_kept _ _ w.if-counts.true w.is_empty.ensures v.if-is_empty.false v.better.ensures (sym v.value-is ∙ w.if-better.false)
          ]
      | else-counts-via-else-counts w ↦ hand_passed _ _ w.if-counts.false
    ]
