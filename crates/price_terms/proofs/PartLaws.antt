-- Byte strings one behind the other: room for all of them is room for each, and written one behind the other they are all written.
use Prim.Native.Nat.{ℕ, ◌+◌, ◌≤◌, ◌<◌}
use mathlib.Core.Path.{◌≡◌, ◌∙◌, ap}
use mathlib.Core.List.{List, [], ◌∷◌, ◌++◌, append_assoc}
use native.Mathlib.Omega.{arith}
use lib.ListN.{length, length-append}
use Rattle.layout.specs.Ensures.{PutsTo}
use Rattle.layout.proofs.StoreLaws.{to_then}
use Rattle.decimals.specs.Texts.{RoomFor}
use Rattle.price_terms.specs.Terms.{two, four}

pub two_length : (x y : List ℕ) → length (two x y) ≡ length x + length y
unfolding two
two_length x y = length-append x y

pub four_length : (w x y z : List ℕ) → length (four w x y z) ≡ length w + (length x + (length y + length z))
unfolding four
four_length w x y z = omega (arith, length-append w (x ++ (y ++ z)), length-append x (y ++ z), length-append y z)

pub flat : (w x y z u : List ℕ) → four w x y z ++ u ≡ w ++ (x ++ (y ++ (z ++ u)))
unfolding four
flat w x y z u =
    append_assoc w (x ++ (y ++ z)) u
    ∙ ap (λ (s : List ℕ). w ++ s) (append_assoc x (y ++ z) u ∙ ap (λ (s : List ℕ). x ++ s) (append_assoc y z u))

module _ {a : List ℕ} {at : ℕ} (x y : List ℕ) (r : RoomFor a at (two x y)) where
  pub room_one : RoomFor a at x
  room_one = record { room = omega (arith, r.room, two_length x y) }

  pub room_two : {b : List ℕ} {i : ℕ} → PutsTo a at x b i → RoomFor b i y
  room_two p = record { room = omega (arith, r.room, two_length x y, p.ends, p.puts.long) }

pub two_put : {a b c : List ℕ} {at i j : ℕ} (x y : List ℕ) → PutsTo a at x b i → PutsTo b i y c j → PutsTo a at (two x y) c j
unfolding two
two_put x y p q = to_then p q

module _ {a : List ℕ} {at : ℕ} (w x y z : List ℕ) (r : RoomFor a at (four w x y z)) where
  pub first_room : RoomFor a at w
  first_room = record { room = omega (arith, r.room, four_length w x y z) }

  module _ {b : List ℕ} {i : ℕ} (p : PutsTo a at w b i) where
    pub second_room : RoomFor b i x
    second_room = record { room = omega (arith, r.room, four_length w x y z, p.ends, p.puts.long) }

    module _ {c : List ℕ} {j : ℕ} (q : PutsTo b i x c j) where
      pub third_room : RoomFor c j y
      third_room = record { room = omega (arith, r.room, four_length w x y z, p.ends, p.puts.long, q.ends, q.puts.long) }

      pub third_fits : j + length y ≤ length c
      third_fits = third_room.room

      pub fourth_room : {d : List ℕ} {k : ℕ} → PutsTo c j y d k → RoomFor d k z
      fourth_room s =
          record { room = omega (arith, r.room, four_length w x y z, p.ends, p.puts.long, q.ends, q.puts.long, s.ends, s.puts.long) }

pub fourth_byte : {a b c d : List ℕ} {at i j k : ℕ} (w x y : List ℕ) (n : ℕ) → RoomFor a at (four w x y (n ∷ []))
    → PutsTo a at w b i → PutsTo b i x c j → PutsTo c j y d k → k < length d
fourth_byte w x y n r p q s = omega (arith, (fourth_room w x y (n ∷ []) r p q s).room)

pub four_put : {a b c d e : List ℕ} {at i j k m : ℕ} (w x y z : List ℕ) → PutsTo a at w b i → PutsTo b i x c j → PutsTo c j y d k → PutsTo d k z e m
    → PutsTo a at (four w x y z) e m
unfolding four
four_put w x y z p q s t = to_then p (to_then q (to_then s t))
