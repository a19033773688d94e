-- Pieces of any length put one behind the other: after each of them those that are left, put behind, make up the whole.
use Prim.Native.Nat.{ℕ, ◌+◌, ◌≤◌, ◌<◌}
use mathlib.Core.Path.{◌≡◌, refl, sym, ◌∙◌, ap}
use mathlib.Core.List.{List, [], ◌++◌}
use native.Mathlib.Omega.{arith}
use native.Mathlib.Numerals.{add-one}
use lib.ListN.{length, drop, get_or, length-append, drop_of_length-le}
use lib.Seq.{sets, drop-cons}
use Rattle.rules.specs.Lists.{join}
use Rattle.layout.specs.Ensures.{PutsTo}
use Rattle.layout.proofs.StoreLaws.{puts_of, sets_of, sets_sets}

-- i pieces are there, and the next one belongs at `at`
pub record Piling (old : List ℕ) (from : ℕ) (pieces : List (List ℕ)) (out : List ℕ) (at i : ℕ) : Type 0 where
  pub place : i ≤ length pieces
  pub left : at + length (join (drop i pieces)) ≡ from + length (join pieces)
  pub room : from + length (join pieces) ≤ length old
  pub same : length out ≡ length old
  pub rest : sets out at (join (drop i pieces)) ≡ sets old from (join pieces)

module _ (old : List ℕ) (from : ℕ) (pieces : List (List ℕ)) where
  pub pile_start : from + length (join pieces) ≤ length old → Piling old from pieces old from 0
  pile_start h = record { place = omega arith; left = refl; room = h; same = refl; rest = refl }

  module _ {out : List ℕ} {at i : ℕ} (inv : Piling old from pieces out at i) where
    -- whatever would stand past the last piece
    module _ (h : i < length pieces) (d : List ℕ) where
      next : join (drop i pieces) ≡ get_or pieces i d ++ join (drop (i + 1) pieces)
      next = ap join (drop-cons pieces i d h) ∙ ap (λ (k : ℕ). get_or pieces i d ++ join (drop k pieces)) (sym (add-one i))

      pub pile_room : at + length (get_or pieces i d) ≤ length out
      pile_room =
          let n = ap length next in
          omega (arith, n, length-append (get_or pieces i d) (join (drop (i + 1) pieces)), inv.left, inv.room, inv.same)

      pub pile_again : {new : List ℕ} {end : ℕ} → PutsTo out at (get_or pieces i d) new end → Piling old from pieces new end (i + 1)
      pile_again {new} {end} p =
          let x : List ℕ = get_or pieces i d in
          let xs : List ℕ = join (drop (i + 1) pieces) in
          record {
            place = omega arith;
            left = omega (arith, p.ends, ap length next, length-append x xs, inv.left);
            room = inv.room;
            same = p.puts.long ∙ inv.same;
            rest =
                ap (λ (k : ℕ). sets new k xs) p.ends
                ∙ ap (λ l. sets l (at + length x) xs) (sets_of p.puts)
                ∙ sets_sets x xs out at
                ∙ ap (sets out at) (sym next)
                ∙ inv.rest;
          }

    pub pile_end : length pieces ≤ i → PutsTo old from (join pieces) out at
    pile_end h =
        let none : drop i pieces ≡ [] = drop_of_length-le pieces h in
        record {
          puts = puts_of inv.room (sym (ap (λ l. sets out at (join l)) none) ∙ inv.rest);
          ends = omega (arith, inv.left, ap (λ l. length (join l)) none);
        }
