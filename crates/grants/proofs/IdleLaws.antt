-- The set of the granted places that brought no line, as a walk over all places builds it.
use Prim.Native.Nat.{ℕ, suc, ◌+◌, ◌-◌, ◌*◌, ◌^◌, ◌≤◌, ◌<◌}
use mathlib.Core.Path.{◌≡◌, refl, sym, ◌∙◌, ap, subst}
use mathlib.Core.Bool.{Bool, true, false, ◌&&◌, not, cond}
use mathlib.Core.List.{List, [], ◌∷◌}
use native.Mathlib.Omega.{arith}
use native.Mathlib.Nat.{pow-suc}
use lib.Dec.{eqb}
use lib.ListN.{length, get_or}
use borrow.Author.Tests.{ne_eqb, eqb-true, eqb-false}
use Rattle.rules.specs.Lists.{any, keep, cons_if}
use Rattle.rules.specs.Question.{Granted, Grant, grants}
use Rattle.rules.specs.Price.{set_of}
use Rattle.rules.proofs.UnusedLaws.{Rising, rising_room, rising_grants}
use Rattle.grants.specs.Table.{GrantsAre}
use Rattle.grants.specs.Places.{is_first, FirstIs}
use Rattle.grants.specs.Idle.{idle, Brought, IdleIs, Above, SetAfter}

-- ---- one place more, or not

module _ {set place : ℕ} {comes : Bool} where
  pub after_in : {r : ℕ} → r ≡ 2 ^ (place - 1) + set → comes ≡ true → SetAfter set place comes r
  after_in f e = record { is = f ∙ rw e }

  pub after_out : comes ≡ false → SetAfter set place comes set
  after_out e = record { is = rw e }

-- a set of places up to k has places up to k + 1 then
after_below : (k : ℕ) {set after : ℕ} {comes : Bool} → set < 2 ^ k → SetAfter set (k + 1) comes after → after < 2 ^ (k + 1)
after_below k {set} {after} {comes} l a =
    let e : k + 1 - 1 ≡ k = omega arith in
    let f : k + 1 ≡ suc k = omega arith in
    rw (f, pow-suc 2 k) (go comes (rw e at a.is))
  where
    go : (t : Bool) → after ≡ cond t (2 ^ k + set) set → after < 2 ^ k * 2
    go true d = omega arith
    go false d = omega arith

-- ---- grants in the order of their places

-- none is at a place before
rising_none : (p k n : ℕ) (gs : List Grant) → p ≤ k → Rising k n gs → any (λ g. eqb g.place p) gs ≡ false
rising_none p k n [] h r = refl
rising_none p k n (g ∷ gs) h r =
    let l : k < g.place = r.0 in
    rw (ne_eqb g.place p (λ e. omega arith)) (rising_none p g.place n gs (omega arith) r.1)

-- ---- place by place

abbrev pub is_idle : List ℕ → Grant → Bool
is_idle places g = not (any (λ p. eqb p g.place) places)

-- the set has the idle places up to k, and with those of the grants that are left it is the whole
pub record Left (names : List Granted) (places : List ℕ) (set k : ℕ) (gs : List Grant) : Type 0 where
  pub is : set + set_of (keep (is_idle places) gs) ≡ set_of (idle names places)
  pub rising : Rising k 32 gs
  pub agree : (p : ℕ) → k < p → any (λ g. eqb g.place p) gs ≡ is_first names p

left_start : (names : List Granted) (places : List ℕ) → length names ≤ 32 → Left names places 0 0 (grants names)
unfolding idle is_first
left_start names places h = record { is = omega arith; rising = rising_grants 32 names h; agree = λ p l. refl }

left_end : {names : List Granted} {places : List ℕ} {set k : ℕ} (gs : List Grant) → Left names places set k gs → 32 ≤ k → set ≡ set_of (idle names places)
left_end [] w h = omega (arith, w.is)
left_end {k = k} (g ∷ gs) w h =
    let l : k < g.place = w.rising.0 in
    absurd (omega (arith, rising_room g.place 32 gs w.rising.1))

-- the grants that are left behind the next place
abbrev pub Next : List Granted → List ℕ → ℕ → ℕ → Type 0
Next names places set k = (gs : List Grant) × Left names places set k gs

module _ (names : List Granted) (places : List ℕ) (set k after : ℕ) (h : k < 32) where
  -- nothing is granted at the place
  left_skip : (gs : List Grant) → Left names places set k gs → Rising (k + 1) 32 gs → after ≡ set → Left names places after (k + 1) gs
  left_skip gs w r e = record { is = rw e w.is; rising = r; agree = λ p l. w.agree p (omega arith) }

  left_take : (g : Grant) (gs : List Grant) → Left names places set k (g ∷ gs) → g.place ≡ k + 1 → (b : Bool) → is_idle places g ≡ b
      → after ≡ cond b (2 ^ (k + 1 - 1) + set) set → Left names places after (k + 1) gs
  left_take g gs w e b f a =
      record {
        is = go b f a;
        rising = subst (λ (j : ℕ). Rising j 32 gs) e w.rising.1;
        agree = λ p l. sym (rw (ne_eqb g.place p (λ d. omega arith))) ∙ w.agree p (omega arith);
      }
    where
      go : (b : Bool) → is_idle places g ≡ b → after ≡ cond b (2 ^ (k + 1 - 1) + set) set → after + set_of (keep (is_idle places) gs) ≡ set_of (idle names places)
      go true f a =
          let s : set + set_of (cons_if true g (keep (is_idle places) gs)) ≡ set_of (idle names places) = subst (λ (t : Bool). set + set_of (cons_if t g (keep (is_idle places) gs)) ≡ set_of (idle names places)) f w.is in
          let i : 2 ^ (g.place - 1) ≡ 2 ^ (k + 1 - 1) = ap (λ (j : ℕ). 2 ^ (j - 1)) e in
          omega (arith, s, i, a)
      go false f a =
          let s : set + set_of (cons_if false g (keep (is_idle places) gs)) ≡ set_of (idle names places) = subst (λ (t : Bool). set + set_of (cons_if t g (keep (is_idle places) gs)) ≡ set_of (idle names places)) f w.is in
          omega (arith, s, a)

  left_again : (gs : List Grant) → Left names places set k gs
      → after ≡ cond (any (λ g. eqb g.place (k + 1)) gs && not (any (λ x. eqb x (k + 1)) places)) (2 ^ (k + 1 - 1) + set) set → Next names places after (k + 1)
  left_again [] w a = ([], left_skip [] w (omega arith) a)
  left_again (g ∷ gs) w a = go (eqb g.place (k + 1)) refl
    where
      go : (b : Bool) → eqb g.place (k + 1) ≡ b → Next names places after (k + 1)
      go true e =
          let f : g.place ≡ k + 1 = eqb-true g.place (k + 1) e in
          let i : is_idle places g ≡ not (any (λ x. eqb x (k + 1)) places) = ap (λ (j : ℕ). not (any (λ x. eqb x j) places)) f in
          (gs, left_take g gs w f (not (any (λ x. eqb x (k + 1)) places)) i (rw e at a))
      go false e =
          let l : k < g.place = w.rising.0 in
          let f : g.place ≡ k + 1 → ⊥ = eqb-false g.place (k + 1) e in
          let m : k + 1 < g.place = omega (arith, f) in
          let none : any (λ g. eqb g.place (k + 1)) gs ≡ false = rising_none (k + 1) g.place 32 gs (omega arith) w.rising.1 in
          (g ∷ gs, left_skip (g ∷ gs) w (m, w.rising.1) (a ∙ rw (e, none)))

-- `passed` places are passed; so it is for all names that the table is of, and all places that the flags are of
pub record Idling (t : List ℕ) (flags : List Bool) (set passed : ℕ) : Type 0 where
  pub few : passed ≤ 32
  pub below : set < 2 ^ passed
  pub left : (names : List Granted) → GrantsAre names t → (places : List ℕ) → Brought places flags → Next names places set passed

module _ {t : List ℕ} {flags : List Bool} where
  pub idle_start : Idling t flags 0 0
  idle_start = record {
    few = omega arith;
    below = omega arith;
    left = λ names g places b. (grants names, left_start names places g.few);
  }

  module _ {set k : ℕ} (inv : Idling t flags set k) where
    pub idle_end : 32 ≤ k → IdleIs t flags set
    idle_end h = record { of = λ names g places b. record { is = left_end (inv.left names g places b).0 (inv.left names g places b).1 h } }

    module _ (h : k < 32) where
      pub idle_above : Above set (k + 1)
      idle_above =
          let e : k + 1 - 1 ≡ k = omega arith in
          record { low = omega arith; high = omega arith; above = rw e inv.below }

      pub idle_again : {r : Bool} {after : ℕ} → FirstIs t (k + 1) r → SetAfter set (k + 1) (r && not (get_or flags (k + 1) false)) after → Idling t flags after (k + 1)
      idle_again {r} {after} f a =
          record {
            few = omega arith;
            below = after_below k inv.below a;
            left = λ names g places b.
                let w = inv.left names g places b in
                let first : r ≡ any (λ g. eqb g.place (k + 1)) w.0 = sym (w.1.agree (k + 1) (omega arith) ∙ (f.of names g).is) in
                left_again names places set k after h w.0 w.1 (a.is ∙ rw (first, b.each (k + 1) (omega arith)));
          }
