-- The bytes from one position of a byte string to another.
use Prim.Native.Nat.{ℕ, suc, ◌+◌, ◌-◌, ◌≤◌, ◌<◌}
use mathlib.Core.Path.{◌≡◌, sym, ◌∙◌, ap}
use mathlib.Core.List.{List, [], ◌∷◌, ◌++◌}
use native.Mathlib.Omega.{arith}
use lib.ListN.{length, take, drop, get_or, take-append-drop, length-drop}
use lib.Seq.{drop-cons, drop-drop, take-suc, get_or-drop, length-take-le}
use Rattle.relation_rules.specs.Grammar.{past}
use Rattle.layout.specs.Reads.{part}

pub part_none : (s : List ℕ) (at : ℕ) → part s at at ≡ []
part_none s at =
    let e : at - at ≡ 0 = omega arith in
    ap (λ n. take n (drop at s)) e

module _ (s : List ℕ) (at to : ℕ) where
  pub part_more : at ≤ to → to < length s → part s at (suc to) ≡ part s at to ++ (get_or s to 0 ∷ [])
  part_more h l =
      let e : suc to - at ≡ suc (to - at) = omega arith in
      let g : at + (to - at) ≡ to = omega arith in
      let k : length (drop at s) ≡ length s - at = length-drop at s in
      let m : to - at < length (drop at s) = omega arith in
      ap (λ n. take n (drop at s)) e
      ∙ take-suc (drop at s) (to - at) 0 m
      ∙ ap (λ b. part s at to ++ (b ∷ [])) (get_or-drop at s (to - at) 0 ∙ ap (λ n. get_or s n 0) g)

  pub part_cons : at < to → to ≤ length s → part s at to ≡ get_or s at 0 ∷ part s (suc at) to
  part_cons h l =
      let e : to - at ≡ suc (to - suc at) = omega arith in
      let m : at < length s = omega arith in
      ap (λ n. take n (drop at s)) e ∙ ap (λ z. take (suc (to - suc at)) z) (drop-cons s at 0 m)

  pub part_rest : at ≤ to → drop at s ≡ part s at to ++ drop to s
  part_rest h =
      let g : at + (to - at) ≡ to = omega arith in
      sym (take-append-drop (to - at) (drop at s)) ∙ ap (λ z. part s at to ++ z) (drop-drop (to - at) at s ∙ ap (λ n. drop n s) g)

  pub part_length : at ≤ to → to ≤ length s → length (part s at to) ≡ to - at
  part_length h l =
      let k : length (drop at s) ≡ length s - at = length-drop at s in
      length-take-le (to - at) (drop at s) (omega arith)

pub past_is : (l : List ℕ) (n : ℕ) → past l n ≡ n + length l
past_is [] n = omega arith
past_is (b ∷ l) n = past_is l (suc n) ∙ omega arith

pub past_part : (s : List ℕ) (at to : ℕ) → at ≤ to → to ≤ length s → past (part s at to) (suc at) ≡ suc to
past_part s at to h l =
    let k : length (part s at to) ≡ to - at = part_length s at to h l in
    past_is (part s at to) (suc at) ∙ omega arith
