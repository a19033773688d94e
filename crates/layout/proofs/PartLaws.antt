-- Parts of byte strings: what stands in a part stands in the whole, so far behind where the part starts.
use Prim.Native.Nat.{ℕ, zero, suc, ◌+◌, ◌-◌, ◌≤◌}
use mathlib.Core.Path.{◌≡◌, refl, ◌∙◌, ap}
use mathlib.Core.List.{List, [], ◌∷◌}
use native.Mathlib.Omega.{arith}
use lib.ListN.{length, take, drop, length-take, length-drop}
use lib.Seq.{drop-drop, take-take}
use Rattle.layout.specs.Reads.{part}

-- within the front of a byte string
pub take_front : (k from n : ℕ) (s : List ℕ) → from + k ≤ n → take k (drop from (take n s)) ≡ take k (drop from s)
take_front k zero n s h = take-take k n s (omega arith)
take_front k (suc from) zero s h = absurd (omega arith)
take_front k (suc from) (suc n) [] h = refl
take_front k (suc from) (suc n) (b ∷ s) h = take_front k from n s (omega arith)

-- within a part of it
pub part_within : (s : List ℕ) (from to at size : ℕ) → at + size ≤ to - from → take size (drop at (part s from to)) ≡ part s (from + at) (from + at + size)
part_within s from to at size h =
    let e : size ≡ from + at + size - (from + at) = omega arith in
    take_front size at (to - from) (drop from s) h ∙ ap (take size) (drop-drop at from s) ∙ ap (λ (k : ℕ). take k (drop (from + at) s)) e

pub part_length : (s : List ℕ) (from to : ℕ) → to ≤ length s → length (part s from to) ≡ to - from
part_length s from to h = omega (arith, length-take (to - from) (drop from s), length-drop from s)
