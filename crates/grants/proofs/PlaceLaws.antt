-- What is read off the table of granted names: a condition's place, and whether a place is named first.
use Prim.Native.Nat.{ℕ, zero, suc, ◌+◌, ◌-◌, ◌*◌, ◌<◌, ◌≤◌}
use mathlib.Core.Path.{◌≡◌, refl, sym, ◌∙◌, ap}
use mathlib.Core.Bool.{Bool, true, false, ◌||◌, cond}
use mathlib.Core.List.{List, [], ◌∷◌, ◌++◌, map}
use native.Mathlib.Omega.{arith}
use native.Mathlib.Nat.{add-zero}
use lib.Dec.{eqb, ltb}
use lib.ListN.{length, get_or, take, drop, replicate, length-map}
use lib.Seq.{drop-append-add, drop-drop, get_or-drop}
use borrow.Author.Tests.{lt-ltb}
use Rattle.rules.specs.Lists.{any, all, between}
use Rattle.rules.specs.Bytes.{big, bytes_of, raise}
use Rattle.rules.specs.Question.{Granted, Grant, placed, firsts, grants, most_factor}
use Rattle.rules.proofs.ListLaws.{All}
use Rattle.rules.proofs.TestLaws.{and_left, and_right, between_low, between_high}
use Rattle.layout.specs.Ensures.{Number}
use Rattle.layout.proofs.NameLaws.{compare_not}
use Rattle.layout.proofs.StoreLaws.{number_back}
use Rattle.grants.specs.Table.{entry, name_of, factor_among, table_from, table_of, GrantsAre, look_from}
use Rattle.grants.specs.Places.{place_in, place_of, is_first, factor_of, PlaceIs, FirstIs, Granting, FactorAt}
use Rattle.rules.proofs.RowLaws.{firsts_all}
use Rattle.grants.proofs.NamedLaws.{fresh, named, found_in, table_named, place_named}
use Rattle.grants.proofs.TableLaws.{entry_long, look_entries}

-- ---- the sizes of names

pub record Sized (c : List ℕ) : Type 0 where
  pub low : 1 ≤ length c
  pub high : length c ≤ 20

raise_sized : (c : List ℕ) → between 1 20 (length c) ≡ true → Sized (map raise c)
raise_sized c e =
    record { low = rw length-map (between_low 1 20 (length c) e); high = rw length-map (between_high 1 20 (length c) e) }

placed_sized : (n : ℕ) (names : List Granted) → all (λ c. between 1 20 (length c.name)) names ≡ true → All (λ g. Sized g.name) (placed n names)
placed_sized n [] e = tt
placed_sized n (c ∷ cs) e = (
  raise_sized c.name (and_left (between 1 20 (length c.name)) (all (λ c. between 1 20 (length c.name)) cs) e),
  placed_sized (suc n) cs (and_right (between 1 20 (length c.name)) (all (λ c. between 1 20 (length c.name)) cs) e),
)

pub grants_sized : (names : List Granted) → all (λ c. between 1 20 (length c.name)) names ≡ true → All (λ g. Sized g.name) (grants names)
unfolding grants
grants_sized names e = firsts_all (λ g. Sized g.name) (placed 1 names) (placed_sized 1 names e)

named_short : (seen : List (List ℕ)) (names : List Granted) → all (λ c. between 1 20 (length c.name)) names ≡ true → All (λ c. length c.name ≤ 20) (named seen names)
unfolding named
named_short seen [] e = tt
named_short seen (c ∷ cs) e = (
  go (fresh seen (map raise c.name)) (raise_sized c.name (and_left (between 1 20 (length c.name)) (all (λ c. between 1 20 (length c.name)) cs) e)),
  named_short (map raise c.name ∷ seen) cs (and_right (between 1 20 (length c.name)) (all (λ c. between 1 20 (length c.name)) cs) e),
)
  where
    go : (b : Bool) → Sized (map raise c.name) → length (cond b (map raise c.name) []) ≤ 20
    go true s = s.high
    go false s = omega arith

named_long : (seen : List (List ℕ)) (names : List Granted) → length (named seen names) ≡ length names
unfolding named
named_long seen [] = refl
named_long seen (c ∷ cs) = ap suc (named_long (map raise c.name ∷ seen) cs)

-- ---- a condition's place

-- a longer name is not granted
long_nowhere : (gs : List Grant) (c : List ℕ) → All (λ g. Sized g.name) gs → 20 < length c → place_in gs c ≡ 33
unfolding place_in
long_nowhere [] c h l = refl
long_nowhere (g ∷ gs) c h l =
    let s : Sized g.name = h.0 in
    rw (compare_not g.name c (λ e. omega (arith, s.high))).is (long_nowhere gs c h.1 l)

place_full : (names : List Granted) (c : List ℕ) → 1 ≤ length c → place_of names c ≡ place_in (grants names) c
unfolding place_of
place_full names [] h = absurd (omega arith)
place_full names (b ∷ c) h = refl

found_place : (names : List Granted) (c : List ℕ) → 1 ≤ length c → found_in 0 (named [] names) c ≡ place_of names c
unfolding place_of
found_place names [] h = absurd (omega arith)
found_place names (b ∷ c) h = place_named names b c

module _ (t : List ℕ) (n : ℕ) (c : List ℕ) where
  pub place_none : length c < 1 → PlaceIs t n c 0
  unfolding place_of
  place_none h = record { below = omega arith; of = λ names g e. record { is = go names c h; below = omega arith } }
    where
      go : (names : List Granted) (c : List ℕ) → length c < 1 → 0 ≡ place_of names c
      go names [] h = refl
      go names (b ∷ c) h = absurd (omega arith)

  pub place_long : 20 < length c → PlaceIs t n c 33
  place_long h = record {
    below = omega arith;
    of = λ names g e. record { is = sym (place_full names c (omega arith) ∙ long_nowhere (grants names) c (grants_sized names g.sizes) h); below = omega arith };
  }

  pub place_looked : {r : ℕ} → 1 ≤ length c → Number (look_from t 0 n c) 34 r → PlaceIs t n c r
  place_looked {r} h p = record {
    below = p.below;
    of = λ names g e.
        let ms : List Granted = named [] names in
        let found : look_from t 0 (length ms) c ≡ found_in 0 ms c =
        look_entries t 0 ms c (replicate (23 * (32 - length names)) 0) (named_short [] names g.sizes) (g.is ∙ table_named names g.few) in
        record { is = p.is ∙ ap (λ (k : ℕ). look_from t 0 k c) (sym (named_long [] names ∙ e)) ∙ found ∙ found_place names c h; below = p.below };
  }

-- ---- a place that is named first

name_short : (p : ℕ) (gs : List Grant) → All (λ g. Sized g.name) gs → length (name_of p gs) ≤ 20
name_short p [] h = omega arith
name_short p (g ∷ gs) h = go (eqb g.place p) h.0 (name_short p gs h.1)
  where
    go : (b : Bool) → Sized g.name → length (name_of p gs) ≤ 20 → length (cond b g.name (name_of p gs)) ≤ 20
    go true s l = s.high
    go false s l = l

name_full : (p : ℕ) (gs : List Grant) → All (λ g. Sized g.name) gs → ltb 0 (length (name_of p gs)) ≡ any (λ g. eqb g.place p) gs
name_full p [] h = refl
name_full p (g ∷ gs) h = go (eqb g.place p) h.0 (name_full p gs h.1)
  where
    go : (b : Bool) → Sized g.name → ltb 0 (length (name_of p gs)) ≡ any (λ g. eqb g.place p) gs
        → ltb 0 (length (cond b g.name (name_of p gs))) ≡ (b || any (λ g. eqb g.place p) gs)
    go true s l = lt-ltb 0 (length g.name) s.low
    go false s l = l

-- an entry stands behind those before it
entry_from : (p m i : ℕ) (gs : List Grant) → i < m → All (λ g. Sized g.name) gs
    → (rest : List ℕ) × (drop (23 * i) (table_from p m gs) ≡ entry (name_of (p + i) gs) (factor_among (p + i) gs) ++ rest)
unfolding table_from
entry_from p zero i gs h s = absurd (omega arith)
entry_from p (suc m) zero gs h s = (table_from (suc p) m gs, ap (λ (k : ℕ). entry (name_of k gs) (factor_among k gs) ++ table_from (suc p) m gs) (sym (add-zero p)))
entry_from p (suc m) (suc i) gs h s =
    let own : List ℕ = entry (name_of p gs) (factor_among p gs) in
    let e : 23 * suc i ≡ length own + 23 * i = omega (arith, entry_long (name_of p gs) (factor_among p gs) (name_short p gs s)) in
    let f : suc p + i ≡ p + suc i = omega arith in
    let x = entry_from (suc p) m i gs (omega arith) s in (
      x.0,
      ap (λ (k : ℕ). drop k (own ++ table_from (suc p) m gs)) e
          ∙ drop-append-add own (table_from (suc p) m gs) (23 * i)
          ∙ x.1
          ∙ ap (λ (k : ℕ). entry (name_of k gs) (factor_among k gs) ++ x.0) f,
    )

module _ (t : List ℕ) (place : ℕ) (l : 1 ≤ place) (h : place ≤ 32) {names : List Granted} (g : GrantsAre names t) where
  -- that of a place
  own_entry : (rest : List ℕ) × (drop (23 * (place - 1)) t ≡ entry (name_of place (grants names)) (factor_among place (grants names)) ++ rest)
  unfolding table_of
  own_entry =
      let e : 1 + (place - 1) ≡ place = omega arith in
      let x = entry_from 1 32 (place - 1) (grants names) (omega arith) (grants_sized names g.sizes) in
      (x.0, ap (drop (23 * (place - 1))) g.is ∙ x.1 ∙ ap (λ (k : ℕ). entry (name_of k (grants names)) (factor_among k (grants names)) ++ x.0) e)

  size_at : get_or t (23 * (place - 1)) 0 ≡ length (name_of place (grants names))
  size_at = ap (λ (k : ℕ). get_or t k 0) (sym (add-zero (23 * (place - 1)))) ∙ sym (get_or-drop (23 * (place - 1)) t 0 0) ∙ ap (λ (u : List ℕ). get_or u 0 0) own_entry.1

  factor_bytes : take 2 (drop (23 * (place - 1) + 1) t) ≡ bytes_of 2 (factor_among place (grants names))
  factor_bytes = ap (take 2) (sym (drop-drop 1 (23 * (place - 1)) t) ∙ ap (drop 1) own_entry.1)

pub first_is : (t : List ℕ) (place : ℕ) → 1 ≤ place → place ≤ 32 → FirstIs t place (ltb 0 (get_or t (23 * (place - 1)) 0))
unfolding is_first
first_is t place l h = record {
  of = λ names g. record { is = sym (ap (ltb 0) (size_at t place l h g) ∙ name_full place (grants names) (grants_sized names g.sizes)) };
}

-- ---- the factor of a place

placed_most : (n : ℕ) (names : List Granted) → All (λ c. c.factor ≤ most_factor) names → All (λ g. g.factor ≤ most_factor) (placed n names)
placed_most n [] h = tt
placed_most n (c ∷ cs) h = (h.0, placed_most (suc n) cs h.1)

among_most : (p : ℕ) (gs : List Grant) → All (λ g. g.factor ≤ most_factor) gs → factor_among p gs ≤ most_factor
among_most p [] h = omega arith
among_most p (g ∷ gs) h = go (eqb g.place p) h.0 (among_most p gs h.1)
  where
    go : (b : Bool) → g.factor ≤ most_factor → factor_among p gs ≤ most_factor → cond b g.factor (factor_among p gs) ≤ most_factor
    go true k l = k
    go false k l = l

grants_most : (names : List Granted) → All (λ c. c.factor ≤ most_factor) names → (p : ℕ) → factor_among p (grants names) ≤ most_factor
unfolding grants
grants_most names h p = among_most p (firsts (placed 1 names)) (firsts_all (λ g. g.factor ≤ most_factor) (placed 1 names) (placed_most 1 names h))

pub factor_none : (t : List ℕ) (place : ℕ) → place < 1 → FactorAt t place 1000
unfolding factor_of
factor_none t place h = record { most = omega arith; of = λ names g. go names place h }
  where
    go : (names : List Granted) (p : ℕ) → p < 1 → 1000 ≡ factor_of names p
    go names zero h = refl
    go names (suc p) h = absurd (omega arith)

pub factor_there : {t : List ℕ} {place n top : ℕ} → Granting t → 1 ≤ place → place ≤ 32 → Number (big (take 2 (drop (23 * (place - 1) + 1) t))) top n → FactorAt t place n
unfolding factor_of
factor_there {t} {place} {n} some l h x = record {
  most = omega (arith, is some.names some.are, grants_most some.names some.are.factors place);
  of = λ names g. is names g ∙ here names place l;
}
  where
    is : (names : List Granted) → GrantsAre names t → n ≡ factor_among place (grants names)
    is names g =
        x.is ∙ ap big (factor_bytes t place l h g)
        ∙ number_back 2 (factor_among place (grants names)) (omega (arith, grants_most names g.factors place))

    here : (names : List Granted) (p : ℕ) → 1 ≤ p → factor_among p (grants names) ≡ factor_of names p
    here names zero h = absurd (omega arith)
    here names (suc p) h = refl

-- there is a factor where a place is
pub factor_inside : (t : List ℕ) (place : ℕ) → length t ≡ 736 → 1 ≤ place → place ≤ 32 → 23 * (place - 1) + 1 + 2 ≤ length t
factor_inside t place e l h = omega arith
