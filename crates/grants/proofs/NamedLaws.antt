-- The granted names in the order of their places, nothing in the place of a repeat: what they are to the definition's grants.
use Prim.Native.Nat.{ℕ, zero, suc, ◌+◌, ◌-◌, ◌*◌, ◌<◌, ◌≤◌}
use mathlib.Core.Path.{◌≡◌, refl, sym, ◌∙◌, ap}
use mathlib.Core.Bool.{Bool, true, false, ◌&&◌, not, cond}
use mathlib.Core.List.{List, [], ◌∷◌, ◌++◌, map, append_assoc}
use native.Mathlib.Omega.{arith}
use lib.ListN.{length, replicate, replicate-append-replicate}
use borrow.Author.Tests.{eq-eqb, ne_eqb}
use Rattle.rules.specs.Lists.{same, keep, cons_if}
use Rattle.rules.specs.Bytes.{raise}
use Rattle.rules.specs.Question.{Granted, Grant, placed, firsts, grants}
use Rattle.rules.proofs.ListLaws.{All, all_keep, keep_keep}
use Rattle.rules.proofs.RowLaws.{firsts_all}
use Rattle.grants.specs.Table.{entry, name_of, factor_among, table_from, table_of}
use Rattle.grants.specs.Places.{place_in}

-- none of the names seen is this one
abbrev pub fresh : List (List ℕ) → List ℕ → Bool
fresh [] c = true
fresh (n ∷ seen) c = not (same c n) && fresh seen c

-- a name raised, with its factor, or nothing if it does not count
abbrev pub counted : Bool → Granted → Granted
counted b c = record { name = cond b (map raise c.name) []; factor = cond b c.factor 0 }

-- each of the names, those that were seen before not counting
unfoldable pub named : List (List ℕ) → List Granted → List Granted
named seen [] = []
named seen (c ∷ cs) = counted (fresh seen (map raise c.name)) c ∷ named (map raise c.name ∷ seen) cs

-- their entries, one behind the other
unfoldable pub entries : List Granted → List ℕ
entries [] = []
entries (c ∷ cs) = entry c.name c.factor ++ entries cs

-- the place of the first that is the name, behind i others
unfoldable pub found_in : ℕ → List Granted → List ℕ → ℕ
found_in i [] c = 33
found_in i (m ∷ ms) c = cond (same m.name c) (i + 1) (found_in (i + 1) ms c)

-- ---- the grants of names of which some were seen

abbrev left : List (List ℕ) → ℕ → List Granted → List Grant
left seen n names = keep (λ g. fresh seen g.name) (firsts (placed n names))

-- the first of them, if it was not seen, and the others
left_step : (seen : List (List ℕ)) (n : ℕ) (c : Granted) (cs : List Granted)
    → left seen n (c ∷ cs)
    ≡ cons_if (fresh seen (map raise c.name)) (record { place = n; name = map raise c.name; factor = c.factor }) (left (map raise c.name ∷ seen) (suc n) cs)
left_step seen n c cs =
    ap (cons_if (fresh seen (map raise c.name)) (record { place = n; name = map raise c.name; factor = c.factor }))
    (keep_keep (λ g. fresh seen g.name) (λ h. not (same h.name (map raise c.name))) (firsts (placed (suc n) cs)))

left_all : (gs : List Grant) → keep (λ g. true) gs ≡ gs
left_all [] = refl
left_all (g ∷ gs) = ap (λ (hs : List Grant). g ∷ hs) (left_all gs)

-- ---- their places

placed_above : (p n : ℕ) (names : List Granted) → p < n → All (λ g. p < g.place) (placed n names)
placed_above p n [] h = tt
placed_above p n (c ∷ cs) h = (h, placed_above p (suc n) cs (omega arith))

left_above : (seen : List (List ℕ)) (p n : ℕ) (names : List Granted) → p < n → All (λ g. p < g.place) (left seen n names)
left_above seen p n names h = all_keep (λ g. p < g.place) _ (firsts (placed n names)) (firsts_all (λ g. p < g.place) (placed n names) (placed_above p n names h))

no_name : (p : ℕ) (gs : List Grant) → All (λ g. p < g.place) gs → name_of p gs ≡ []
no_name p [] h = refl
no_name p (g ∷ gs) h =
    let l : p < g.place = h.0 in
    rw (ne_eqb g.place p (λ e. omega arith)) (no_name p gs h.1)

no_factor : (p : ℕ) (gs : List Grant) → All (λ g. p < g.place) gs → factor_among p gs ≡ 0
no_factor p [] h = refl
no_factor p (g ∷ gs) h =
    let l : p < g.place = h.0 in
    rw (ne_eqb g.place p (λ e. omega arith)) (no_factor p gs h.1)

-- ---- the table, entry by entry

-- a grant of a place before does not matter
passed_by : (p m : ℕ) (g : Grant) (gs : List Grant) → g.place < p → table_from p m (g ∷ gs) ≡ table_from p m gs
unfolding table_from
passed_by p zero g gs h = refl
passed_by p (suc m) g gs h = rw (ne_eqb g.place p (λ e. omega arith)) (ap (λ (t : List ℕ). entry (name_of p gs) (factor_among p gs) ++ t) (passed_by (suc p) m g gs (omega arith)))

first_entry : (b : Bool) (p m : ℕ) (c : List ℕ) (f : ℕ) (gs : List Grant) → All (λ g. p < g.place) gs
    → table_from p (suc m) (cons_if b (record { place = p; name = c; factor = f }) gs) ≡ entry (cond b c []) (cond b f 0) ++ table_from (suc p) m gs
unfolding table_from
first_entry true p m c f gs h =
    rw (eq-eqb p p refl) (ap (λ (t : List ℕ). entry c f ++ t) (passed_by (suc p) m (record { place = p; name = c; factor = f }) gs (omega arith)))
first_entry false p m c f gs h = λ i. entry (no_name p gs h i) (no_factor p gs h i) ++ table_from (suc p) m gs

-- where nothing is granted all bytes are zeros
no_entries : (p m : ℕ) → table_from p m [] ≡ replicate (23 * m) 0
unfolding table_from
no_entries p zero = refl
no_entries p (suc m) =
    let e : 23 + 23 * m ≡ 23 * suc m = omega arith in
    ap (λ (t : List ℕ). replicate 23 0 ++ t) (no_entries (suc p) m) ∙ replicate-append-replicate 23 (23 * m) 0 ∙ ap (λ (j : ℕ). replicate j 0) e

table_left : (p m : ℕ) (seen : List (List ℕ)) (names : List Granted) → length names ≤ m
    → table_from p m (left seen p names) ≡ entries (named seen names) ++ replicate (23 * (m - length names)) 0
unfolding named entries
table_left p m seen [] h =
    let e : m ≡ m - 0 = omega arith in
    no_entries p m ∙ ap (λ (j : ℕ). replicate (23 * j) 0) e
table_left p zero seen (c ∷ cs) h = absurd (omega arith)
table_left p (suc m) seen (c ∷ cs) h =
    let r : List ℕ = map raise c.name in
    let own : List ℕ = entry (cond (fresh seen r) r []) (cond (fresh seen r) c.factor 0) in
    let e : m - length cs ≡ suc m - suc (length cs) = omega arith in
    ap (table_from p (suc m)) (left_step seen p c cs)
    ∙ first_entry (fresh seen r) p m r c.factor (left (r ∷ seen) (suc p) cs) (left_above (r ∷ seen) p (suc p) cs (omega arith))
    ∙ ap (λ (t : List ℕ). own ++ t) (table_left (suc p) m (r ∷ seen) cs (omega arith))
    ∙ sym (append_assoc own (entries (named (r ∷ seen) cs)) (replicate (23 * (m - length cs)) 0))
    ∙ ap (λ (j : ℕ). (own ++ entries (named (r ∷ seen) cs)) ++ replicate (23 * j) 0) e

-- the table of the definition's grants
pub table_named : (names : List Granted) → length names ≤ 32 → table_of (grants names) ≡ entries (named [] names) ++ replicate (23 * (32 - length names)) 0
unfolding table_of grants
table_named names h = ap (table_from 1 32) (sym (left_all (firsts (placed 1 names)))) ∙ table_left 1 32 [] names h

-- ---- the place of a name

place_left : (i : ℕ) (seen : List (List ℕ)) (names : List Granted) (b : ℕ) (c : List ℕ) → found_in i (named seen names) (b ∷ c) ≡ place_in (left seen (i + 1) names) (b ∷ c)
unfolding named found_in place_in
place_left i seen [] b c = refl
place_left i seen (x ∷ xs) b c =
    let r : List ℕ = map raise x.name in
    let e : i + 1 + 1 ≡ suc (i + 1) = omega arith in
    go r (left (r ∷ seen) (suc (i + 1)) xs) (fresh seen r) (place_left (i + 1) (r ∷ seen) xs b c ∙ ap (λ (n : ℕ). place_in (left (r ∷ seen) n xs) (b ∷ c)) e)
    ∙ ap (λ gs. place_in gs (b ∷ c)) (sym (left_step seen (i + 1) x xs))
  where
    go : {d : ℕ} (r : List ℕ) (gs : List Grant) (t : Bool) → d ≡ place_in gs (b ∷ c)
        → cond (same (cond t r []) (b ∷ c)) (i + 1) d ≡ place_in (cons_if t (record { place = i + 1; name = r; factor = x.factor }) gs) (b ∷ c)
    go r gs true f = ap (cond (same r (b ∷ c)) (i + 1)) f
    go r gs false f = f

pub place_named : (names : List Granted) (b : ℕ) (c : List ℕ) → found_in 0 (named [] names) (b ∷ c) ≡ place_in (grants names) (b ∷ c)
unfolding grants
place_named names b c = place_left 0 [] names b c ∙ ap (λ gs. place_in gs (b ∷ c)) (left_all (firsts (placed 1 names)))
