-- What a slot keeps: the code's steps are those of the definition's walk over the rows.
use Prim.Native.Nat.{ℕ, ◌<◌}
use mathlib.Core.Path.{◌≡◌, sym}
use mathlib.Core.Bool.{Bool, true, false, ◌&&◌, ◌||◌}
use native.Mathlib.Omega.{arith}
use lib.Dec.{eqb, ltb}
use borrow.Author.Tests.{eq-eqb, ne_eqb}
use Rattle.rules.proofs.TestLaws.{or_false}
use Rattle.layout.specs.Ensures.{Number, Says}
use Rattle.choice.specs.declared.hands.Hand.{Hand}
use Rattle.choice.specs.declared.hands.Seen.{Seen}
use Rattle.choice.specs.declared.hands.Passing.{Passing}
use Rattle.choice.specs.Hands.{counted, is_empty, limit_of, better_hand, hand_after, seen_after, taken_of, HandAfter, SeenAfter, TakenIs}
use Rattle.choice.specs.Walk.{uncounted}

-- ---- what the functions compute

module _ (upto : ℕ) where
  pub limit_none : upto ≡ 0 → Number (limit_of upto) 4294967297 4294967296
  unfolding limit_of
  limit_none e = record { is = rw (eq-eqb upto 0 e); below = omega arith }

  pub limit_some : (upto ≡ 0 → ⊥) → upto < 4294967296 → Number (limit_of upto) 4294967297 upto
  unfolding limit_of
  limit_some n h = record { is = rw (ne_eqb upto 0 n); below = omega arith }

module _ (new old : Hand) where
  pub better_is : {a b top : ℕ} → Number (limit_of new.upto) top a → Number (limit_of old.upto) top b
      → Says (better_hand new old) (ltb a b || (eqb a b && (ltb old.from new.from || (eqb new.from old.from && ltb new.at old.at))))
  unfolding better_hand
  better_is p q = record { is = rw (p.is, q.is) }

  pub hand_passed : {counts : Bool} → counts ≡ false → HandAfter counts old new old
  unfolding hand_after
  hand_passed e = record { is = rw e }

  module _ {counts none : Bool} (e : counts ≡ true) (held : Says (is_empty old) none) where
    pub hand_first : none ≡ true → HandAfter counts old new new
    unfolding hand_after
    hand_first z = record { is = rw (e, held.is, z) }

    module _ {b : Bool} (n : none ≡ false) (p : Says (better_hand new old) b) where
      pub hand_better : b ≡ true → HandAfter counts old new new
      unfolding hand_after
      hand_better t = record { is = rw (e, held.is, n, p.is, t) }

      pub hand_kept : b ≡ false → HandAfter counts old new old
      unfolding hand_after
      hand_kept t = record { is = rw (e, held.is, n, p.is, t) }

pub seen_is : (s : Seen) (p : Passing) {asked other : Hand} → HandAfter (p.asked && p.reaches) s.asked p.hand asked → HandAfter p.reaches s.other p.hand other
    → SeenAfter s (counted p) (record { met = s.met || p.asked; asked = asked; other = other })
unfolding seen_after
seen_is s p a o = record {
  is = λ i. record {
    met = s.met || p.asked;
    asked = a.is i;
    other = o.is i;
  };
}

-- no row leaves it as it is
pub seen_none : (s : Seen) → SeenAfter s uncounted s
unfolding seen_after hand_after
seen_none s = record {
  is = λ i. record {
    met = sym (or_false s.met) i;
    asked = s.asked;
    other = s.other;
  };
}

module _ (s : Seen) where
  pub taken_asked : s.met ≡ true → TakenIs s s.asked
  unfolding taken_of
  taken_asked e = record { is = rw e }

  pub taken_other : s.met ≡ false → TakenIs s s.other
  unfolding taken_of
  taken_other e = record { is = rw e }
