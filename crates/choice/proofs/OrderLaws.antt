-- Of two hands that stand apart in the book one is better: so it does not matter in which order two rows go by.
use Prim.Native.Nat.{◌≤◌, ◌<◌}
use mathlib.Core.Path.{◌≡◌, refl, sym, ◌∙◌, ap}
use mathlib.Core.Bool.{Bool, true, false, ◌&&◌, ◌||◌, not, cond, false≢true}
use native.Mathlib.Omega.{arith}
use lib.Dec.{eqb, ltb}
use borrow.Author.Tests.{ltb-true, ltb-false, eqb-true, eqb-false, ne_eqb}
use Rattle.choice.specs.declared.hands.Hand.{Hand}
use Rattle.choice.specs.declared.hands.Seen.{Seen}
use Rattle.choice.specs.Hands.{Going, is_empty, limit_of, better_hand, hand_after, seen_after}

-- ---- the order

-- a is better than b
data Ahead (a b : Hand) : Type 0 where
  tighter : limit_of a.upto < limit_of b.upto → Ahead a b
  later : limit_of a.upto ≡ limit_of b.upto → b.from < a.from → Ahead a b
  sooner : limit_of a.upto ≡ limit_of b.upto → a.from ≡ b.from → a.at < b.at → Ahead a b

-- a is not
data Behind (a b : Hand) : Type 0 where
  looser : limit_of b.upto < limit_of a.upto → Behind a b
  earlier : limit_of a.upto ≡ limit_of b.upto → a.from < b.from → Behind a b
  not_sooner : limit_of a.upto ≡ limit_of b.upto → a.from ≡ b.from → b.at ≤ a.at → Behind a b

data Compared (a b : Hand) : Bool → Type 0 where
  ahead : Ahead a b → Compared a b true
  behind : Behind a b → Compared a b false

compared : (a b : Hand) → Compared a b (better_hand a b)
unfolding better_hand
compared a b =
    go (ltb (limit_of a.upto) (limit_of b.upto)) (eqb (limit_of a.upto) (limit_of b.upto)) (ltb b.from a.from) (eqb a.from b.from) (ltb a.at b.at) refl refl refl refl refl
  where
    go : (p q r s t : Bool) → ltb (limit_of a.upto) (limit_of b.upto) ≡ p → eqb (limit_of a.upto) (limit_of b.upto) ≡ q → ltb b.from a.from ≡ r → eqb a.from b.from ≡ s
        → ltb a.at b.at ≡ t → Compared a b (p || (q && (r || (s && t))))
    go true q r s t e f g h k = ahead (tighter (ltb-true _ _ e))
    go false true true s t e f g h k = ahead (later (eqb-true _ _ f) (ltb-true _ _ g))
    go false true false true true e f g h k = ahead (sooner (eqb-true _ _ f) (eqb-true _ _ h) (ltb-true _ _ k))
    go false true false true false e f g h k = behind (not_sooner (eqb-true _ _ f) (eqb-true _ _ h) (ltb-false _ _ k))
    go false true false false t e f g h k =
        let x : a.from ≤ b.from = ltb-false _ _ g in
        let y : a.from ≡ b.from → ⊥ = eqb-false _ _ h in
        behind (earlier (eqb-true _ _ f) (omega arith))
    go false false r s t e f g h k =
        let x : limit_of b.upto ≤ limit_of a.upto = ltb-false _ _ e in
        let y : limit_of a.upto ≡ limit_of b.upto → ⊥ = eqb-false _ _ f in
        behind (looser (omega arith))

module _ {a b : Hand} where
  -- b is not better than a where a is better than b
  turned : Ahead a b → Behind b a
  turned (tighter h) = looser h
  turned (later e h) = earlier (sym e) h
  turned (sooner e f h) = not_sooner (sym e) (sym f) (omega arith)

  -- and b is better where a is not, unless they are the same row
  unless : (a.at ≡ b.at → ⊥) → Behind a b → Ahead b a
  unless n (looser h) = tighter h
  unless n (earlier e h) = later (sym e) h
  unless n (not_sooner e f h) = sooner (sym e) (sym f) (omega arith)

alone : {a : Hand} → Ahead a a → ⊥
alone (tighter h) = omega arith
alone (later e h) = omega arith
alone (sooner e f h) = omega arith

-- a is better than b, and c is not
past : {a b c : Hand} → Ahead a b → Behind c b → Ahead a c
past (tighter h) (looser k) = tighter (omega arith)
past (tighter h) (earlier e k) = tighter (omega arith)
past (tighter h) (not_sooner e f k) = tighter (omega arith)
past (later e h) (looser k) = tighter (omega arith)
past (later e h) (earlier f k) = later (omega arith) (omega arith)
past (later e h) (not_sooner f g k) = later (omega arith) (omega arith)
past (sooner e f h) (looser k) = tighter (omega arith)
past (sooner e f h) (earlier g k) = later (omega arith) (omega arith)
past (sooner e f h) (not_sooner g j k) = sooner (omega arith) (omega arith) (omega arith)

-- ---- two rows in either order

is_ahead : (a b : Hand) → better_hand a b ≡ true → Ahead a b
is_ahead a b e = go (compared a b) e
  where
    go : {x : Bool} → Compared a b x → x ≡ true → Ahead a b
    go (ahead p) e = p
    go (behind p) e = absurd (false≢true e)

is_behind : (a b : Hand) → better_hand a b ≡ false → Behind a b
is_behind a b e = go (compared a b) e
  where
    go : {x : Bool} → Compared a b x → x ≡ false → Behind a b
    go (ahead p) e = absurd (false≢true (sym e))
    go (behind p) e = p

-- h is behind k, and not behind r
not_past : (k r h : Hand) → better_hand k h ≡ true → better_hand r h ≡ false → better_hand r k ≡ false
not_past k r h e f = go (better_hand r k) refl
  where
    go : (z : Bool) → better_hand r k ≡ z → z ≡ false
    go true g = absurd (alone (past (is_ahead r k g) (turned (past (is_ahead k h e) (is_behind r h f)))))
    go false g = refl

module _ (k r : Hand) (apart : k.at ≡ r.at → ⊥) where
  of_two : better_hand k r ≡ not (better_hand r k)
  of_two = go (better_hand k r) (better_hand r k) refl refl
    where
      go : (x y : Bool) → better_hand k r ≡ x → better_hand r k ≡ y → x ≡ not y
      go true true e f = absurd (alone (past (is_ahead k r e) (turned (is_ahead r k f))))
      go true false e f = refl
      go false true e f = refl
      go false false e f = absurd (alone (past (unless apart (is_behind k r e)) (is_behind r k f)))

  two : cond (better_hand r k) r k ≡ cond (better_hand k r) k r
  two = go (better_hand r k) ∙ ap (λ (x : Bool). cond x k r) (sym of_two)
    where
      go : (x : Bool) → cond x r k ≡ cond (not x) k r
      go true = refl
      go false = refl

  three : (h : Hand) (x y : Bool) → better_hand k h ≡ x → better_hand r h ≡ y
      → cond (better_hand r (cond x k h)) r (cond x k h) ≡ cond (better_hand k (cond y r h)) k (cond y r h)
  three h true true e f = two
  three h true false e f = rw (not_past k r h e f, e)
  three h false true e f = rw (not_past r k h f e, f)
  three h false false e f = rw (e, f)

  module _ (low : 1 ≤ k.at) (also : 1 ≤ r.at) where
    some_k : is_empty k ≡ false
    some_k = ne_eqb k.at 0 (λ e. omega arith)

    some_r : is_empty r ≡ false
    some_r = ne_eqb r.at 0 (λ e. omega arith)

    full : (b : Bool) (x y : Hand) → is_empty x ≡ false → is_empty y ≡ false → is_empty (cond b x y) ≡ false
    full true x y e f = e
    full false x y e f = f

    hand_swap : (c d : Bool) (h : Hand) → hand_after d (hand_after c h k) r ≡ hand_after c (hand_after d h r) k
    unfolding hand_after
    hand_swap false d h = refl
    hand_swap true false h = refl
    hand_swap true true h = go (is_empty h) refl
      where
        go : (z : Bool) → is_empty h ≡ z → hand_after true (cond z k (cond (better_hand k h) k h)) r ≡ hand_after true (cond z r (cond (better_hand r h) r h)) k
        go true e = rw (some_k, some_r) two
        go false e = rw (full (better_hand k h) k h some_k e, full (better_hand r h) r h some_r e) (three h (better_hand k h) (better_hand r h) refl refl)

or_swap : (a b c : Bool) → ((a || b) || c) ≡ ((a || c) || b)
or_swap true b c = refl
or_swap false true true = refl
or_swap false true false = refl
or_swap false false true = refl
or_swap false false false = refl

-- a slot keeps the same
pub seen_swap : (p r : Going) → 1 ≤ p.hand.at → 1 ≤ r.hand.at → (p.hand.at ≡ r.hand.at → ⊥) → (s : Seen) → seen_after (seen_after s p) r ≡ seen_after (seen_after s r) p
unfolding seen_after
seen_swap p r low also apart s = λ i. record {
  met = or_swap s.met (p.stands && p.asked) (r.stands && r.asked) i;
  asked = hand_swap p.hand r.hand apart low also (p.stands && p.asked && p.reaches) (r.stands && r.asked && r.reaches) s.asked i;
  other = hand_swap p.hand r.hand apart low also (p.stands && p.reaches) (r.stands && r.reaches) s.other i;
}
