-- The rows that the 99 slots choose, slot after slot, are the chosen rows of the definition.
use Prim.Native.Nat.{ℕ, suc, ◌+◌, ◌/◌, ◌%◌, ◌≤◌, ◌<◌}
use mathlib.Core.Path.{◌≡◌, refl, sym, ◌∙◌, ap, subst}
use mathlib.Core.Bool.{Bool, true, false, ◌&&◌, cond}
use mathlib.Core.List.{List, [], ◌∷◌, ◌++◌, map}
use mathlib.Core.Option
use mathlib.Core.Option.{Option, some, none}
use native.Mathlib.Omega.{arith}
use lib.Dec.{eqb}
use lib.ListN.{length}
use borrow.Author.Tests.{eqb-true, ne_eqb}
use Rattle.rules.specs.Lists.{same, keep, cons_if, cons_some, gather}
use Rattle.rules.specs.Bytes.{raise}
use Rattle.rules.specs.Book.{Row, base, surcharge, discount}
use Rattle.rules.specs.Question.{Granted, Question, grants, plain_factor}
use Rattle.rules.specs.Choice.{component, choose, step₁, step₂, step₃, step₄, step₅, surviving}
use Rattle.rules.specs.Lines.{named_slot, slots_at, slots, Chosen, rows_at, chosen_at, chosen}
use Rattle.rules.proofs.TestLaws.{and_false}
use Rattle.rules.proofs.ListLaws.{All, gather_append}
use Rattle.grants.specs.Table.{GrantsAre}
use Rattle.grants.specs.Places as Grants
use Rattle.grants.proofs.GatherLaws as Gathered
use Rattle.grants.proofs.FirstLaws.{first_from, place_first}
use Rattle.choice.specs.Slots.{level_of, in_slot, placed_row, slot_chosen, slots_chosen}

-- ---- lists

module _ {A : Type 0} where
  keep_same : (p q : A → Bool) (xs : List A) → All (λ x. p x ≡ q x) xs → keep p xs ≡ keep q xs
  keep_same p q [] h = refl
  keep_same p q (x ∷ xs) h = rw h.0 (ap (cons_if (q x) x) (keep_same p q xs h.1))

  pub all_of : {P : A → Type 0} → ((x : A) → P x) → (xs : List A) → All P xs
  all_of f [] = tt
  all_of f (x ∷ xs) = (f x, all_of f xs)

  keep_none : (p : A → Bool) (xs : List A) → All (λ x. p x ≡ false) xs → keep p xs ≡ []
  keep_none p [] h = refl
  keep_none p (x ∷ xs) h = rw h.0 (keep_none p xs h.1)

module _ {A B C : Type 0} where
  gather_map : (f : B → Option C) (g : A → B) (xs : List A) → gather f (map g xs) ≡ gather (λ x. f (g x)) xs
  gather_map f g [] = refl
  gather_map f g (x ∷ xs) = ap (cons_some (f (g x))) (gather_map f g xs)

-- ---- the rows of a slot are those of a component

-- the three levels by their numbers
pub data Level : ℕ → ℕ → Type 0 where
  Base : Level 0 base
  Surcharge : Level 1 surcharge
  Discount : Level 2 discount

level_is : {l : ℕ} {letter : ℕ} → Level l letter → (x : ℕ) → eqb (level_of x) l ≡ eqb x letter
unfolding level_of
level_is Base x = go (eqb x base) refl
  where
    go : (b : Bool) → eqb x base ≡ b → eqb (cond b 0 (cond (eqb x surcharge) 1 (cond (eqb x discount) 2 3))) 0 ≡ b
    go true e = refl
    go false e = rest (eqb x surcharge) (eqb x discount)
      where
        rest : (c d : Bool) → eqb (cond c 1 (cond d 2 3)) 0 ≡ false
        rest true d = refl
        rest false true = refl
        rest false false = refl
level_is Surcharge x = go (eqb x base) (eqb x surcharge) refl refl
  where
    go : (b c : Bool) → eqb x base ≡ b → eqb x surcharge ≡ c → eqb (cond b 0 (cond c 1 (cond (eqb x discount) 2 3))) 1 ≡ c
    go true true e f = absurd (omega (arith, eqb-true x base e, eqb-true x surcharge f))
    go true false e f = refl
    go false true e f = refl
    go false false e f = rest (eqb x discount)
      where
        rest : (d : Bool) → eqb (cond d 2 3) 1 ≡ false
        rest true = refl
        rest false = refl
level_is Discount x = go (eqb x base) (eqb x surcharge) (eqb x discount) refl refl refl
  where
    go : (b c d : Bool) → eqb x base ≡ b → eqb x surcharge ≡ c → eqb x discount ≡ d → eqb (cond b 0 (cond c 1 (cond d 2 3))) 2 ≡ d
    go true c true e f g = absurd (omega (arith, eqb-true x base e, eqb-true x discount g))
    go true c false e f g = refl
    go false true true e f g = absurd (omega (arith, eqb-true x surcharge f, eqb-true x discount g))
    go false true false e f g = refl
    go false false true e f g = refl
    go false false false e f g = refl

-- a slot that no row is of
empty_slot : (q : Question) (rs : List Row) (l place : ℕ) → ((c : List ℕ) → eqb (Grants.place_of q.granted c) place ≡ false) → slot_chosen rs q l place ≡ none
unfolding slot_chosen in_slot
empty_slot q rs l place h =
    ap (λ (xs : List Row). Option.map (placed_row q place) (choose q.date q.quantity q.currency xs)) (keep_none (in_slot q l place) rs (all_of none_in rs))
    ∙ ap (Option.map (placed_row q place)) (nothing q.currency)
  where
    none_in : (r : Row) → in_slot q l place r ≡ false
    none_in r =
        rw (h r.condition, and_false (eqb (level_of r.level) l), and_false (eqb r.sort q.sort)) (and_false (same r.article q.article))

    nothing : (c : Option (List ℕ)) → choose q.date q.quantity c [] ≡ none
    nothing none = unfold choose surviving step₁ step₂ step₃ step₄ step₅ in refl
    nothing (some c) = unfold choose surviving step₁ step₂ step₃ step₄ step₅ in refl

-- no condition is at a place behind the last granted name
behind_names : (k : ℕ) (names : List Granted) (c : List ℕ) (place : ℕ) → k + length names ≤ place → place < 33 → eqb (first_from k names c) place ≡ false
unfolding first_from
behind_names k [] c place h l = ne_eqb 33 place (λ e. omega arith)
behind_names k (g ∷ gs) c place h l = go (same (map raise g.name) c) (behind_names (suc k) gs c place (omega arith) l)
  where
    go : (b : Bool) → eqb (first_from (suc k) gs c) place ≡ false → eqb (cond b k (first_from (suc k) gs c)) place ≡ false
    go true f = ne_eqb k place (λ e. omega arith)
    go false f = f

pub slot_behind : (q : Question) (rs : List Row) (l place : ℕ) → length q.granted < place → place < 33 → slot_chosen rs q l place ≡ none
unfolding Grants.place_of
slot_behind q rs l place h k = empty_slot q rs l place nowhere
  where
    nowhere : (c : List ℕ) → eqb (Grants.place_of q.granted c) place ≡ false
    nowhere [] = ne_eqb 0 place (λ e. omega arith)
    nowhere (b ∷ c) = ap (λ (x : ℕ). eqb x place) (place_first q.granted (b ∷ c)) ∙ behind_names 1 q.granted (b ∷ c) place (omega arith) k

module _ (q : Question) {table : List ℕ} (ok : GrantsAre q.granted table) {l : ℕ} {letter : ℕ} (level : Level l letter) (rs : List Row) where
  in_component : (place : ℕ) (name : List ℕ) → ((c : List ℕ) → eqb (Grants.place_of q.granted c) place ≡ same c name)
      → keep (in_slot q l place) rs ≡ component q.article q.sort letter name rs
  unfolding in_slot component
  in_component place name h =
      keep_same _ _ rs (all_of (λ r. λ i. same r.article q.article && (eqb r.sort q.sort && (level_is level r.level i && h r.condition i))) rs)

  slot_component : (place : ℕ) (name : List ℕ) → ((c : List ℕ) → eqb (Grants.place_of q.granted c) place ≡ same c name)
      → (factor : ℕ) → Grants.factor_of q.granted place ≡ factor → slot_chosen rs q l place ≡ chosen_at rs q (record { level = letter; place = place; condition = name; factor = factor })
  unfolding slot_chosen chosen_at rows_at
  slot_component place name h factor f =
      λ i. Option.map (λ r. record { place = place; factor = f i; row = r }) (choose q.date q.quantity q.currency (in_component place name h i))

  -- all places of a level
  level_chosen : gather (slot_chosen rs q l) (Grants.up_from 0 33) ≡ gather (chosen_at rs q) (slots_at (grants q.granted) letter)
  level_chosen =
      let rest : gather (slot_chosen rs q l) (Grants.up_from 1 32) ≡ gather (chosen_at rs q) (map (named_slot letter) (grants q.granted)) =
      Gathered.places_gathered ok (slot_chosen rs q l) (λ g. chosen_at rs q (named_slot letter g)) (λ g h f. slot_component g.place g.name h g.factor f) (empty_slot q rs l)
      ∙ sym (gather_map (chosen_at rs q) (named_slot letter) (grants q.granted)) in
      (λ i. cons_some (slot_component 0 [] (Gathered.none_is ok) plain_factor plain i) (rest i))
    where
      plain : Grants.factor_of q.granted 0 ≡ plain_factor
      plain = unfold Grants.factor_of in refl

-- ---- all three levels

-- Slot after slot, the 99 slots choose the rows of the definition, in its order.
pub slots_choose : (q : Question) {table : List ℕ} → GrantsAre q.granted table → (rs : List Row) → slots_chosen rs q ≡ chosen rs q
unfolding slots_chosen chosen slots
slots_choose q ok rs =
    gather_append at (Grants.up_from 0 33) (Grants.up_from 33 33 ++ Grants.up_from 66 33)
    ∙ ap (λ (xs : List Chosen). gather at (Grants.up_from 0 33) ++ xs) (gather_append at (Grants.up_from 33 33) (Grants.up_from 66 33))
    ∙ (λ i. level_chosen q ok Base rs i ++ (level_chosen q ok Surcharge rs i ++ level_chosen q ok Discount rs i))
    ∙ sym (gather_append (chosen_at rs q) (slots_at (grants q.granted) base) (slots_at (grants q.granted) surcharge ++ slots_at (grants q.granted) discount)
    ∙ ap (λ (xs : List Chosen). gather (chosen_at rs q) (slots_at (grants q.granted) base) ++ xs) (gather_append (chosen_at rs q) (slots_at (grants q.granted) surcharge) (slots_at (grants q.granted) discount)))
  where
    at : ℕ → Option Chosen
    at i = slot_chosen rs q (i / 33) (i % 33)

-- each of them has the factor of its place
pub chosen_factors : (q : Question) {table : List ℕ} → GrantsAre q.granted table → (rs : List Row)
    → All (λ c. c.factor ≡ Grants.factor_of q.granted c.place) (chosen rs q)
unfolding slots_chosen slot_chosen
chosen_factors q ok rs = subst (All (λ c. c.factor ≡ Grants.factor_of q.granted c.place)) (slots_choose q ok rs) (each (Grants.up_from 0 99))
  where
    one : (place : ℕ) (o : Option Row) (cs : List Chosen) → All (λ c. c.factor ≡ Grants.factor_of q.granted c.place) cs
        → All (λ c. c.factor ≡ Grants.factor_of q.granted c.place) (cons_some (Option.map (placed_row q place) o) cs)
    one place none cs h = h
    one place (some r) cs h = (refl, h)

    each : (is : List ℕ) → All (λ c. c.factor ≡ Grants.factor_of q.granted c.place) (gather (λ i. slot_chosen rs q (i / 33) (i % 33)) is)
    each [] = tt
    each (i ∷ is) = one (i % 33) (choose q.date q.quantity q.currency (keep (in_slot q (i / 33) (i % 33)) rs)) (gather (λ i. slot_chosen rs q (i / 33) (i % 33)) is) (each is)
