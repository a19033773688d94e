-- `vectors::told::hex` is safe: no part has more bytes than are put into hexadecimal at once.
use Rattle.std.proofs.Common.{◌≡◌}
use Rattle.vectors.proofs.told.hex.Given as goal

abbrev pub invariant-loop-part : goal.invariant-loop-part
invariant-loop-part g l =
    (goal.iterator-loop-part g).can_next l.part-iterator ×
    (goal.iterator-loop-part g).is_finite l.part-iterator ×
    (l.part-iterator.size ≡ 2048)
