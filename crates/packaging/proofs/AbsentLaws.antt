-- What is sure of the used records of an accepted book: a value that none has is 0, and a unit has three letters.
use Prim.Native.Nat.{ℕ, zero, suc, ◌<◌}
use mathlib.Core.Path.{◌≡◌, refl, sym, ◌∙◌, ap}
use mathlib.Core.Bool.{Bool, true, false, ◌||◌, false≢true}
use mathlib.Core.List.{List, [], ◌∷◌, ◌++◌}
use mathlib.Core.Option.{Option, some, none}
use native.Mathlib.Omega.{arith}
use lib.IntN.{ℤ, pos, negsuc, ◌+ℤ◌}
use lib.ListN.{length, take, drop, get_or}
use lib.Seq.{take_at, drop_at, drop-drop}
use Rattle.rules.specs.Lists.{first, if_some}
use Rattle.rules.specs.Book.{Pack}
use Rattle.rules.specs.BookLayout.{has, eight, no_unit}
use Rattle.rules.specs.Bytes.{either_side}
use Rattle.rules.specs.Packaging.{used, present_in, value_in, is_given, units_given, unit_in, Packed}
use Rattle.rules.proofs.RangeLaws.{either_in}
use Rattle.rules.proofs.ListLaws.{All, Holds, all_each, first_holds}
use Rattle.rules.proofs.KindLaws.{pack_kind, list_all}
use Rattle.rules.proofs.PackagingLaws.{Answered, each_of_eight, used_hold}
use Rattle.records.specs.Ensures.{Bounded, PackBounds, units_in}
use Rattle.records.proofs.BoundLaws.{book_bounds}

-- ---- the records used

pub used_sound : {b s : List ℕ} {a : Packed} (x : Answered b s a) → All PackBounds (used x.book x.question x.pack)
used_sound {b} x =
    let all = list_all pack_kind Bounded x.book (book_bounds b x.is_book) in
    used_hold PackBounds x.book all x.question x.pack x.has_pack

-- ---- values

near_zero : (z : ℤ) → either_side 0 z ≡ true → z ≡ pos 0
near_zero (pos n) e = ap pos (omega (arith, either_in 0 (pos n) e))
near_zero (negsuc n) e = absurd (omega (arith, either_in 0 (negsuc n) e))

-- a value that a record lacks
lacked : {p : Pack} → PackBounds p → (i : ℕ) → i < 8 → has i p.present ≡ false → get_or p.values i (pos 0) ≡ pos 0
lacked {p} h i l e = near_zero (get_or p.values i (pos 0)) (sym (ap (λ (b : Bool). b || either_side 0 (get_or p.values i (pos 0))) e) ∙ each_of_eight (λ i. zero_if i ≡ true) (all_each zero_if eight h.absent) i l)
  where
    zero_if : ℕ → Bool
    zero_if i = has i p.present || either_side 0 (get_or p.values i (pos 0))

-- and one that all lack
pub all_lack : (us : List Pack) → All PackBounds us → (i : ℕ) → i < 8 → present_in us i ≡ false → value_in us i ≡ pos 0
all_lack [] h i l e = refl
all_lack (u ∷ us) h i l e = go (has i u.present) refl e (all_lack us h.1 i l)
  where
    go : (b : Bool) → has i u.present ≡ b → (b || present_in us i) ≡ false → (present_in us i ≡ false → value_in us i ≡ pos 0) → get_or u.values i (pos 0) +ℤ value_in us i ≡ pos 0
    go true f e ih = absurd (false≢true (sym e))
    go false f e ih = λ k. lacked h.0 i l f k +ℤ ih e k

-- ---- units

letters_at : (us : List (List ℕ)) → All (λ u. length u ≡ 3) us → (i : ℕ) → length (get_or us i no_unit) ≡ 3
letters_at [] h i = refl
letters_at (u ∷ us) h zero = h.0
letters_at (u ∷ us) h (suc i) = letters_at us h.1 i

pub unit_three : (us : List Pack) → All PackBounds us → (i : ℕ) → length (unit_in us i) ≡ 3
unit_three us h i = go (first is_given (units_given us i)) (first_holds (λ u. length u ≡ 3) is_given (units_given us i) (each us h))
  where
    each : (us : List Pack) → All PackBounds us → All (λ u. length u ≡ 3) (units_given us i)
    each [] h = tt
    each (u ∷ us) h = (letters_at u.units h.0.letters i, each us h.1)

    go : (o : Option (List ℕ)) → Holds (λ u. length u ≡ 3) o → length (if_some o no_unit (λ u. u)) ≡ 3
    go none h = refl
    go (some u) h = h

-- nine letters are three units
pub three_units : (u v w : List ℕ) → length u ≡ 3 → length v ≡ 3 → length w ≡ 3 → units_in (u ++ (v ++ (w ++ []))) ≡ u ∷ v ∷ w ∷ []
three_units u v w a b c =
    let all : List ℕ = u ++ (v ++ (w ++ [])) in
    let behind : drop 3 all ≡ v ++ (w ++ []) = drop_at u (v ++ (w ++ [])) 3 a in
    let last : drop 6 all ≡ w ++ [] = sym (drop-drop 3 3 all) ∙ ap (drop 3) behind ∙ drop_at v (w ++ []) 3 b in
    let x : take 3 all ≡ u = take_at u (v ++ (w ++ [])) 3 a in
    let y : take 3 (drop 3 all) ≡ v = ap (take 3) behind ∙ take_at v (w ++ []) 3 b in
    let z : take 3 (drop 6 all) ≡ w = ap (take 3) last ∙ take_at w [] 3 c in
    λ i. x i ∷ y i ∷ z i ∷ []
