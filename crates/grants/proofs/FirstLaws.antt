-- The place of a condition among the definition's grants is that of the first of the names, as they were sent, that it is once raised.
use Prim.Native.Nat.{ℕ, suc}
use mathlib.Core.Path.{◌≡◌, refl, ◌∙◌, ap}
use mathlib.Core.Bool.{Bool, true, false, not, cond}
use mathlib.Core.List.{List, [], ◌∷◌, map}
use Rattle.rules.specs.Lists.{same, keep, cons_if}
use Rattle.rules.specs.Bytes.{raise}
use Rattle.rules.specs.Question.{Granted, Grant, placed, firsts, grants}
use Rattle.rules.proofs.ListLaws.{same_eq}
use Rattle.grants.specs.Places.{nowhere, place_in, place_of}

-- the first of the names that is this one once raised, counted from n
unfoldable pub first_from : ℕ → List Granted → List ℕ → ℕ
first_from n [] c = nowhere
first_from n (g ∷ gs) c = cond (same (map raise g.name) c) n (first_from (suc n) gs c)

-- where another name is looked up, the repeats of a name do not matter
without_repeats : (x c : List ℕ) (gs : List Grant) → same x c ≡ false → place_in (keep (λ h. not (same h.name x)) gs) c ≡ place_in gs c
unfolding place_in
without_repeats x c [] e = refl
without_repeats x c (h ∷ gs) e = go (same h.name x) refl (without_repeats x c gs e)
  where
    go : (b : Bool) → same h.name x ≡ b → place_in (keep (λ h. not (same h.name x)) gs) c ≡ place_in gs c
        → place_in (cons_if (not b) h (keep (λ h. not (same h.name x)) gs)) c ≡ cond (same h.name c) h.place (place_in gs c)
    go true f ih = ih ∙ rw (same_eq h.name x f, e)
    go false f ih = ap (cond (same h.name c) h.place) ih

place_firsts : (n : ℕ) (names : List Granted) (c : List ℕ) → place_in (firsts (placed n names)) c ≡ first_from n names c
unfolding place_in first_from
place_firsts n [] c = refl
place_firsts n (x ∷ xs) c = go (same (map raise x.name) c) refl (place_firsts (suc n) xs c)
  where
    go : (b : Bool) → same (map raise x.name) c ≡ b → place_in (firsts (placed (suc n) xs)) c ≡ first_from (suc n) xs c
        → cond b n (place_in (keep (λ h. not (same h.name (map raise x.name))) (firsts (placed (suc n) xs))) c) ≡ cond b n (first_from (suc n) xs c)
    go true e ih = refl
    go false e ih = without_repeats (map raise x.name) c (firsts (placed (suc n) xs)) e ∙ ih

-- Of names that are alike the first counts, and its place is counted from 1 among all the names that were sent.
pub place_first : (names : List Granted) (c : List ℕ) → place_in (grants names) c ≡ first_from 1 names c
unfolding grants
place_first names c = place_firsts 1 names c

-- A condition's place, by the names as they were sent.
pub place_sent : (names : List Granted) (b : ℕ) (c : List ℕ) → place_of names (b ∷ c) ≡ first_from 1 names (b ∷ c)
unfolding place_of
place_sent names b c = place_first names (b ∷ c)
