-- Gathered place after place: at the place of a granted name a condition stands only if it is that name, and at any other place none does.
use Prim.Native.Nat.{ℕ, zero, suc, ◌+◌, ◌<◌, ◌≤◌}
use mathlib.Core.Path.{◌≡◌, refl, sym, ◌∙◌, ap}
use mathlib.Core.Bool.{Bool, true, false, ◌&&◌, not, cond}
use mathlib.Core.List.{List, [], ◌∷◌}
use mathlib.Core.Option.{Option, none}
use native.Mathlib.Omega.{arith}
use native.Mathlib.Decide.{ℕ_discrete}
use lib.Dec.{eqb}
use borrow.Author.Tests.{eqb-true, eqb-false, eq-eqb, ne_eqb}
use Rattle.rules.specs.Lists.{same, keep, cons_if, cons_some, gather}
use Rattle.rules.specs.Question.{Granted, Grant, placed, firsts, grants}
use Rattle.rules.proofs.ListLaws.{All, same_eq, all_keep, kept}
use Rattle.rules.proofs.TestLaws.{not_so}
use Rattle.rules.proofs.UnusedLaws.{Rising, rising_room, rising_grants}
use Rattle.grants.specs.Table.{GrantsAre, factor_among}
use Rattle.grants.specs.Places.{place_in, place_of, factor_of, up_from}
use Rattle.grants.proofs.PlaceLaws.{Sized, grants_sized}

same_sym : (xs ys : List ℕ) → same xs ys ≡ same ys xs
same_sym [] [] = refl
same_sym [] (y ∷ ys) = refl
same_sym (x ∷ xs) [] = refl
same_sym (x ∷ xs) (y ∷ ys) = λ i. eqb_sym x y i && same_sym xs ys i
  where
    eqb_sym : (a b : ℕ) → eqb a b ≡ eqb b a
    eqb_sym a b = go (eqb a b) refl
      where
        go : (t : Bool) → eqb a b ≡ t → eqb a b ≡ eqb b a
        go true e = e ∙ sym (eq-eqb b a (sym (eqb-true a b e)))
        go false e = e ∙ sym (ne_eqb b a (λ h. eqb-false a b e (sym h)))

-- what holds of all grants, whatever the condition, holds of each for every condition
all_swap : (P : Grant → List ℕ → Type 0) (gs : List Grant) → ((c : List ℕ) → All (λ g. P g c) gs) → All (λ g. (c : List ℕ) → P g c) gs
all_swap P [] h = tt
all_swap P (g ∷ gs) h = (λ c. (h c).0, all_swap P gs (λ c. (h c).1))

-- ---- no name twice

-- no name is that of a grant before it
abbrev Apart : List Grant → Type 0
Apart [] = Unit {0}
Apart (g ∷ gs) = All (λ h. not (same h.name g.name) ≡ true) gs × Apart gs

apart_keep : (p : Grant → Bool) (gs : List Grant) → Apart gs → Apart (keep p gs)
apart_keep p [] a = tt
apart_keep p (g ∷ gs) a = go (p g) (apart_keep p gs a.1)
  where
    go : (b : Bool) → Apart (keep p gs) → Apart (cons_if b g (keep p gs))
    go true ih = (all_keep (λ h. not (same h.name g.name) ≡ true) p gs a.0, ih)
    go false ih = ih

apart_firsts : (gs : List Grant) → Apart (firsts gs)
apart_firsts [] = tt
apart_firsts (g ∷ gs) = (
  kept (λ h. not (same h.name g.name)) (firsts gs),
  apart_keep (λ h. not (same h.name g.name)) (firsts gs) (apart_firsts gs),
)

-- ---- grants in the order of their places

rising_above : (j k n : ℕ) (gs : List Grant) → j ≤ k → Rising k n gs → All (λ g. j < g.place) gs
rising_above j k n [] h r = tt
rising_above j k n (g ∷ gs) h r =
    let l : k < g.place = r.0 in
    (omega arith, rising_above j g.place n gs (omega arith) r.1)

-- whatever is looked up is at a place behind k, or nowhere
place_above : (k n : ℕ) (gs : List Grant) (c : List ℕ) → n < 33 → Rising k n gs → k < place_in gs c
unfolding place_in
place_above k n [] c l r = omega arith
place_above k n (g ∷ gs) c l r = go (same g.name c) (place_above g.place n gs c l r.1)
  where
    go : (b : Bool) → g.place < place_in gs c → k < cond b g.place (place_in gs c)
    go true h = r.0
    go false h =
        let m : k < g.place = r.0 in
        omega arith

-- a condition is at the place of a grant only if it is its name
at_grant : (k n : ℕ) (gs : List Grant) (c : List ℕ) → n < 33 → Rising k n gs → Apart gs
    → All (λ g. eqb (place_in gs c) g.place ≡ same g.name c) gs
unfolding place_in
at_grant k n [] c l r a = tt
at_grant k n (h ∷ hs) c l r a =
    let later = rising_above h.place h.place n hs (omega arith) r.1 in
    (head (same h.name c), each hs a.0 later (at_grant h.place n hs c l r.1 a.1))
  where
    head : (b : Bool) → eqb (cond b h.place (place_in hs c)) h.place ≡ b
    head true = eq-eqb h.place h.place refl
    head false = ne_eqb (place_in hs c) h.place (λ e. omega (arith, place_above h.place n hs c l r.1))

    each : (gs : List Grant) → All (λ g. not (same g.name h.name) ≡ true) gs → All (λ g. h.place < g.place) gs
        → All (λ g. eqb (place_in hs c) g.place ≡ same g.name c) gs
        → All (λ g. eqb (cond (same h.name c) h.place (place_in hs c)) g.place ≡ same g.name c) gs
    each [] x y z = tt
    each (g ∷ gs) x y z = (one (same h.name c) refl, each gs x.1 y.1 z.1)
      where
        one : (b : Bool) → same h.name c ≡ b → eqb (cond b h.place (place_in hs c)) g.place ≡ same g.name c
        one true e =
            let m : h.place < g.place = y.0 in
            ne_eqb h.place g.place (λ f. omega arith)
            ∙ sym (ap (same g.name) (sym (same_eq h.name c e)) ∙ not_so (same g.name h.name) x.0)
        one false e = z.0

-- the factor that is read at the place of a grant is its own
factors_own : (k n : ℕ) (gs : List Grant) → Rising k n gs → All (λ g. factor_among g.place gs ≡ g.factor) gs
factors_own k n [] r = tt
factors_own k n (h ∷ hs) r = (
  rw (eq-eqb h.place h.place refl),
  each hs (rising_above h.place h.place n hs (omega arith) r.1) (factors_own h.place n hs r.1),
)
  where
    each : (gs : List Grant) → All (λ g. h.place < g.place) gs → All (λ g. factor_among g.place hs ≡ g.factor) gs
        → All (λ g. cond (eqb h.place g.place) h.factor (factor_among g.place hs) ≡ g.factor) gs
    each [] l f = tt
    each (g ∷ gs) l f =
        let m : h.place < g.place = l.0 in
        (rw (ne_eqb h.place g.place (λ e. omega arith)) f.0, each gs l.1 f.1)

-- at the place of no grant stands none
at_none : (gs : List Grant) (c : List ℕ) (i : ℕ) → i < 33 → All (λ g. g.place ≡ i → ⊥) gs → eqb (place_in gs c) i ≡ false
unfolding place_in
at_none [] c i l h = ne_eqb 33 i (λ e. omega arith)
at_none (g ∷ gs) c i l h = go (same g.name c) (at_none gs c i l h.1)
  where
    go : (b : Bool) → eqb (place_in gs c) i ≡ false → eqb (cond b g.place (place_in gs c)) i ≡ false
    go true f = ne_eqb g.place i h.0
    go false f = f

-- ---- gathered

module _ {B : Type 0} where
  -- place after place, what gives the same at each
  pub gather_same : (f g : ℕ → Option B) (k n : ℕ) → ((i : ℕ) → k ≤ i → i < k + n → f i ≡ g i) → gather f (up_from k n) ≡ gather g (up_from k n)
  gather_same f g k zero h = refl
  gather_same f g k (suc n) h =
      let rest : gather f (up_from (suc k) n) ≡ gather g (up_from (suc k) n) = gather_same f g (suc k) n (λ i a b. h i (omega arith) (omega arith)) in
      λ j. cons_some (h k (omega arith) (omega arith) j) (rest j)

  module _ (at : ℕ → Option B) (of : Grant → Option B) where
    -- nothing stands at the m places behind k but what stands at those of the grants
    abbrev Nothing : ℕ → ℕ → List Grant → Type 0
    Nothing k m gs = (i : ℕ) → k < i → i ≤ k + m → All (λ g. g.place ≡ i → ⊥) gs → at i ≡ none

    abbrev Gathered : ℕ → ℕ → ℕ → List Grant → Type 0
    Gathered k m n gs =
        k + m ≡ n → Rising k n gs → All (λ g. at g.place ≡ of g) gs → Nothing k m gs → gather at (up_from (suc k) m) ≡ gather of gs

    rising_gathered : (k m n : ℕ) (gs : List Grant) → Gathered k m n gs
    rising_gathered k zero n [] e r a w = refl
    rising_gathered k zero n (g ∷ gs) e r a w =
        let l : k < g.place = r.0 in
        absurd (omega (arith, rising_room g.place n gs r.1))
    rising_gathered k (suc m) n [] e r a w =
        let rest = rising_gathered (suc k) m n [] (omega arith) (omega arith) tt (λ i b c h. w i (omega arith) (omega arith) tt) in
        λ j. cons_some (w (suc k) (omega arith) (omega arith) tt j) (rest j)
    rising_gathered k (suc m) n (g ∷ gs) e r a w = go (ℕ_discrete g.place (suc k)) (rising_gathered (suc k) m n)
      where
        go : Dec (g.place ≡ suc k) → ((gs : List Grant) → Gathered (suc k) m n gs)
            → cons_some (at (suc k)) (gather at (up_from (suc (suc k)) m)) ≡ cons_some (of g) (gather of gs)
        go (yes here) ih =
            let more : Rising (suc k) n gs = rw here at r.1 in
            let first : at (suc k) ≡ of g = ap at (sym here) ∙ a.0 in
            λ j. cons_some (first j) (ih gs (omega arith) more a.1 (λ i b c h. w i (omega arith) (omega arith) (λ f. omega arith, h)) j)
        go (no elsewhere) ih =
            let l : k < g.place = r.0 in
            let later : suc k < g.place = omega arith in
            let behind = past gs (rising_above (suc k) g.place n gs (omega arith) r.1) in
            let first : at (suc k) ≡ none = w (suc k) (omega arith) (omega arith) (λ f. elsewhere f, behind) in
            (λ j. cons_some (first j) (gather at (up_from (suc (suc k)) m)))
            ∙ ih (g ∷ gs) (omega arith) (later, r.1) a (λ i b c h. w i (omega arith) (omega arith) h)
          where
            past : (gs : List Grant) → All (λ g. suc k < g.place) gs → All (λ g. g.place ≡ suc k → ⊥) gs
            past [] h = tt
            past (g ∷ gs) h =
                let l : suc k < g.place = h.0 in
                (λ f. omega arith, past gs h.1)

-- ---- of the names that a table is of

module _ {names : List Granted} {table : List ℕ} (ok : GrantsAre names table) where
  rising : Rising 0 32 (grants names)
  rising = rising_grants 32 names ok.few

  -- without a condition
  pub none_is : (c : List ℕ) → eqb (place_of names c) 0 ≡ same c []
  unfolding place_of
  none_is [] = refl
  none_is (b ∷ c) = ne_eqb (place_in (grants names) (b ∷ c)) 0 (λ e. omega (arith, place_above 0 32 (grants names) (b ∷ c) (omega arith) rising))

  -- at the place of a granted name
  names_are : (c : List ℕ) → All (λ g. eqb (place_of names c) g.place ≡ same c g.name) (grants names)
  names_are [] = unfold place_of in empty (grants names) (rising_above 0 0 32 (grants names) (omega arith) rising) (grants_sized names ok.sizes)
    where
      empty : (gs : List Grant) → All (λ g. 0 < g.place) gs → All (λ g. Sized g.name) gs → All (λ g. eqb 0 g.place ≡ same [] g.name) gs
      empty [] h s = tt
      empty (g ∷ gs) h s =
          let l : 0 < g.place = h.0 in
          (ne_eqb 0 g.place (λ e. omega arith) ∙ sym (go g.name s.0), empty gs h.1 s.1)
        where
          go : (c : List ℕ) → Sized c → same [] c ≡ false
          go [] s = absurd (omega (arith, s.low))
          go (b ∷ c) s = refl
  names_are (b ∷ c) =
      let apart : Apart (grants names) = unfold grants in apart_firsts (placed 1 names) in
      unfold place_of in turned (grants names) (at_grant 0 32 (grants names) (b ∷ c) (omega arith) rising apart)
    where
      turned : (gs : List Grant) → All (λ g. eqb (place_in (grants names) (b ∷ c)) g.place ≡ same g.name (b ∷ c)) gs
          → All (λ g. eqb (place_in (grants names) (b ∷ c)) g.place ≡ same (b ∷ c) g.name) gs
      turned [] h = tt
      turned (g ∷ gs) h = (h.0 ∙ same_sym g.name (b ∷ c), turned gs h.1)

  -- the factor of its place is its own
  factors_are : All (λ g. factor_of names g.place ≡ g.factor) (grants names)
  unfolding factor_of
  factors_are = each (grants names) (rising_above 0 0 32 (grants names) (omega arith) rising) (factors_own 0 32 (grants names) rising)
    where
      one : (n : ℕ) → 0 < n → factor_of names n ≡ factor_among n (grants names)
      one zero h = absurd (omega arith)
      one (suc i) h = refl

      each : (gs : List Grant) → All (λ g. 0 < g.place) gs → All (λ g. factor_among g.place (grants names) ≡ g.factor) gs → All (λ g. factor_of names g.place ≡ g.factor) gs
      each [] h f = tt
      each (g ∷ gs) h f = (one g.place h.0 ∙ f.0, each gs h.1 f.1)

  -- at any other
  others_are : (i : ℕ) → 0 < i → i < 33 → All (λ g. g.place ≡ i → ⊥) (grants names) → (c : List ℕ) → eqb (place_of names c) i ≡ false
  others_are i l m h [] = unfold place_of in ne_eqb 0 i (λ e. omega arith)
  others_are i l m h (b ∷ c) = unfold place_of in at_none (grants names) (b ∷ c) i m h

  -- Where a place gives what the name does that is granted there, and nothing where no condition is, all places give what the granted names do.
  pub places_gathered : {B : Type 0} (at : ℕ → Option B) (of : Grant → Option B)
      → ((g : Grant) → ((c : List ℕ) → eqb (place_of names c) g.place ≡ same c g.name) → factor_of names g.place ≡ g.factor → at g.place ≡ of g)
      → ((i : ℕ) → ((c : List ℕ) → eqb (place_of names c) i ≡ false) → at i ≡ none) → gather at (up_from 1 32) ≡ gather of (grants names)
  places_gathered at of named empty =
      rising_gathered at of 0 32 32 (grants names) refl rising
      (each (grants names) (all_swap (λ g c. eqb (place_of names c) g.place ≡ same c g.name) (grants names) names_are) factors_are)
      (λ i l m h. empty i (others_are i l (omega arith) h))
    where
      each : (gs : List Grant) → All (λ g. (c : List ℕ) → eqb (place_of names c) g.place ≡ same c g.name) gs → All (λ g. factor_of names g.place ≡ g.factor) gs
          → All (λ g. at g.place ≡ of g) gs
      each [] h f = tt
      each (g ∷ gs) h f = (named g h.0 f.0, each gs h.1 f.1)
