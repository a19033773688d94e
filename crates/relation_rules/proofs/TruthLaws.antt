-- Truth of three values, by the table of 003, appendix A; what grants a name, and what is derived.
use Prim.Native.Nat.{ℕ, suc, ◌+◌, ◌≤◌, ◌<◌}
use mathlib.Core.Path.{◌≡◌, refl, sym, ◌∙◌, ap, subst}
use mathlib.Core.Bool.{Bool, true, false, ◌&&◌, ◌||◌, false≢true}
use mathlib.Core.List.{List, [], ◌∷◌, map}
use mathlib.Core.Option.{some, none}
use native.Mathlib.Omega.{arith}
use lib.Dec.{ltb}
use lib.ListN.{length}
use borrow.Author.Tests.{ltb-true}
use Rattle.rules.specs.Lists.{keep, cons_if, all, between}
use Rattle.rules.specs.Bytes.{name_byte}
use Rattle.relation_rules.specs.Grammar.{Chain, One, More, Sign, Equal, Constant, Operand, Property, Given, OrChain, FirstAnd, Or, FirstSingle, And, Single, Comparison, Specified, Among, Not, Group, Assignment}
use Rattle.rules.specs.PlacedRefusals.{ResultAt, Done, RefusedAt}
use Rattle.relation_rules.specs.Truth.{Held, value_in, Truth, True, False, Undefined, either, together, opposite, truth_of, plainly, operand_value, compared, comparison, among, has_value, or_truth, single_truth, granted_by, grantable, most_names, with_name, names_from}
use Rattle.rules.proofs.TestLaws.{and_left, and_right, both}
use Rattle.relation_rules.proofs.SoundLaws.{refused_fine}

-- ---- the table

abbrev pub all_three : List Truth
all_three = True ∷ False ∷ Undefined ∷ []

abbrev pub rows_of : (Truth → Truth → Truth) → List (List Truth)
rows_of f = map (λ x. map (f x) all_three) all_three

-- OR: true if one is; otherwise undefined if one is. AND: not true if one is not; otherwise undefined if one is. The rows and columns are true, not true, undefined.
pub table : (rows_of either ≡ ((True ∷ True ∷ True ∷ []) ∷ (True ∷ False ∷ Undefined ∷ []) ∷ (True ∷ Undefined ∷ Undefined ∷ []) ∷ []))
    × (rows_of together ≡ ((True ∷ False ∷ Undefined ∷ []) ∷ (False ∷ False ∷ False ∷ []) ∷ (Undefined ∷ False ∷ Undefined ∷ []) ∷ []))
    × (map opposite all_three ≡ (False ∷ True ∷ Undefined ∷ []))
unfolding either together opposite
table = (refl, refl, refl)

-- ---- laws of the table

pub either_comm : (x y : Truth) → either x y ≡ either y x
unfolding either
either_comm True True = refl
either_comm True False = refl
either_comm True Undefined = refl
either_comm False True = refl
either_comm False False = refl
either_comm False Undefined = refl
either_comm Undefined True = refl
either_comm Undefined False = refl
either_comm Undefined Undefined = refl

pub either_assoc : (x y z : Truth) → either (either x y) z ≡ either x (either y z)
unfolding either
either_assoc True y z = refl
either_assoc False y z = refl
either_assoc Undefined True z = refl
either_assoc Undefined False z = refl
either_assoc Undefined Undefined True = refl
either_assoc Undefined Undefined False = refl
either_assoc Undefined Undefined Undefined = refl

pub opposite_twice : (x : Truth) → opposite (opposite x) ≡ x
unfolding opposite
opposite_twice True = refl
opposite_twice False = refl
opposite_twice Undefined = refl

-- NOT turns OR into AND, and AND into OR
pub opposite_either : (x y : Truth) → opposite (either x y) ≡ together (opposite x) (opposite y)
unfolding either together opposite
opposite_either True y = refl
opposite_either False y = refl
opposite_either Undefined True = refl
opposite_either Undefined False = refl
opposite_either Undefined Undefined = refl

pub opposite_together : (x y : Truth) → opposite (together x y) ≡ either (opposite x) (opposite y)
unfolding either together opposite
opposite_together True y = refl
opposite_together False y = refl
opposite_together Undefined True = refl
opposite_together Undefined False = refl
opposite_together Undefined Undefined = refl

pub together_comm : (x y : Truth) → together x y ≡ together y x
unfolding together
together_comm True True = refl
together_comm True False = refl
together_comm True Undefined = refl
together_comm False True = refl
together_comm False False = refl
together_comm False Undefined = refl
together_comm Undefined True = refl
together_comm Undefined False = refl
together_comm Undefined Undefined = refl

pub together_assoc : (x y z : Truth) → together (together x y) z ≡ together x (together y z)
unfolding together
together_assoc True y z = refl
together_assoc False y z = refl
together_assoc Undefined True z = refl
together_assoc Undefined False z = refl
together_assoc Undefined Undefined True = refl
together_assoc Undefined Undefined False = refl
together_assoc Undefined Undefined Undefined = refl

-- a chain of ORs is plainly true exactly where one of its parts is
pub either_plainly : (x y : Truth) → plainly (either x y) ≡ (plainly x || plainly y)
unfolding either
either_plainly True y = refl
either_plainly False y = refl
either_plainly Undefined True = refl
either_plainly Undefined False = refl
either_plainly Undefined Undefined = refl

-- a chain of ANDs, where both are
pub together_plainly : (x y : Truth) → plainly (together x y) ≡ (plainly x && plainly y)
unfolding together
together_plainly True y = refl
together_plainly False y = refl
together_plainly Undefined True = refl
together_plainly Undefined False = refl
together_plainly Undefined Undefined = refl

-- ---- conditions

plainly_true : (x : Truth) → plainly x ≡ true → x ≡ True
plainly_true True e = refl
plainly_true False e = absurd (false≢true e)
plainly_true Undefined e = absurd (false≢true e)

module _ (ps : List Held) where
  -- Only a condition that is plainly true grants its name.
  pub grants_exactly : (o : OrChain) → (granted_by ps (some o) ≡ true → or_truth ps o ≡ True) × (or_truth ps o ≡ True → granted_by ps (some o) ≡ true)
  unfolding granted_by
  grants_exactly o = (plainly_true (or_truth ps o), λ e. ap plainly e)

  -- SPECIFIED is never undefined
  pub specified_defined : (n : List ℕ) → single_truth ps (Specified n) ≡ Undefined → ⊥
  unfolding or_truth
  specified_defined n e = go (has_value (value_in ps n)) e
    where
      is_undefined : Truth → Bool
      is_undefined True = false
      is_undefined False = false
      is_undefined Undefined = true

      go : (b : Bool) → truth_of b ≡ Undefined → ⊥
      go true f = false≢true (ap is_undefined f)
      go false f = false≢true (ap is_undefined f)

  -- parentheses and a second NOT change nothing
  pub group_truth : (o : OrChain) → single_truth ps (Group o) ≡ or_truth ps o
  unfolding or_truth
  group_truth o = refl

  pub not_not : (c : Single) → single_truth ps (Not (Not c)) ≡ single_truth ps c
  unfolding or_truth
  not_not c = opposite_twice (single_truth ps c)

  -- AND binds before OR
  pub and_first : (a b c : Single) → or_truth ps (Or (FirstAnd (FirstSingle a)) (And (FirstSingle b) c)) ≡ either (single_truth ps a) (together (single_truth ps b) (single_truth ps c))
  unfolding or_truth
  and_first a b c = refl

  -- IN is the OR of its equalities: as an or-chain of comparisons
  pub equalities : List ℕ → Chain Constant → OrChain
  equalities n (One c) = FirstAnd (FirstSingle (Comparison (Property n) Equal (Given c)))
  equalities n (More cs c) = Or (equalities n cs) (FirstSingle (Comparison (Property n) Equal (Given c)))

  pub in_equalities : (n : List ℕ) (cs : Chain Constant) → single_truth ps (Among n cs) ≡ or_truth ps (equalities n cs)
  unfolding or_truth among equalities
  in_equalities n (One c) = refl
  in_equalities n (More cs c) = ap (λ x. either x (comparison ps (Property n) Equal (Given c))) (in_equalities n cs)

  -- a property without a value makes every comparison with it undefined
  pub no_value : (n : List ℕ) (s : Sign) (y : Operand) → value_in ps n ≡ none → comparison ps (Property n) s y ≡ Undefined
  unfolding comparison
  no_value n s y e = ap (λ o. compared true s o (operand_value ps y)) e

  -- ---- what is derived

  abbrev pub grants_name : Assignment → Bool
  grants_name a = granted_by ps a.condition

  abbrev pub names : List Assignment → List (List ℕ)
  names as' = map (λ (a : Assignment). a.value) (keep grants_name as')

  with_name_fine : (n : List ℕ) (r : ResultAt (List (List ℕ))) (ns : List (List ℕ)) → with_name n r ≡ Done ns → (ms : List (List ℕ)) × (r ≡ Done ms) × (n ∷ ms ≡ ns)
  with_name_fine n (Done ms) ns e = (ms, refl, ap (fine_or ns) e)
    where
      fine_or : List (List ℕ) → ResultAt (List (List ℕ)) → List (List ℕ)
      fine_or d (Done a) = a
      fine_or d (RefusedAt k p) = d
  with_name_fine n (RefusedAt k p) ns e = absurd (refused_fine k p ns e)

  -- The names derived are those of the assignments that grant one, in order, repeats among them.
  pub derived_names : (as' : List Assignment) (count : ℕ) (ns : List (List ℕ)) → names_from ps count as' ≡ Done ns → ns ≡ names as'
  unfolding names_from
  derived_names [] count ns e = sym (ap (fine_or ns) e)
    where
      fine_or : List (List ℕ) → ResultAt (List (List ℕ)) → List (List ℕ)
      fine_or d (Done a) = a
      fine_or d (RefusedAt k p) = d
  derived_names (a ∷ as') count ns e = go (derived_names as') (grants_name a) (grantable a.value && ltb count most_names) e
    where
      go : ((c : ℕ) (ms : List (List ℕ)) → names_from ps c as' ≡ Done ms → ms ≡ names as') → (x y : Bool)
          → elim x as (λ z. ResultAt (List (List ℕ))) [
            | true ↦ elim y as (λ z. ResultAt (List (List ℕ))) [ true ↦ with_name a.value (names_from ps (suc count) as') | false ↦ RefusedAt 16 a.place ]
            | false ↦ names_from ps count as'
          ] ≡ Done ns
          → ns ≡ map (λ (b : Assignment). b.value) (cons_if x a (keep grants_name as'))
      go ih true true f =
          let r = with_name_fine a.value (names_from ps (suc count) as') ns f in
          sym r.2 ∙ ap (λ z. a.value ∷ z) (ih (suc count) r.0 r.1)
      go ih true false f = absurd (refused_fine 16 a.place ns f)
      go ih false y f = ih count ns f

  -- Each of them can stand in a question, and they are at most 32.
  pub derived_grantable : (as' : List Assignment) (count : ℕ) (ns : List (List ℕ)) → count ≤ most_names → names_from ps count as' ≡ Done ns
      → (all grantable ns ≡ true) × (count + length ns ≤ most_names)
  unfolding names_from
  derived_grantable [] count ns l e = subst (λ z. (all grantable z ≡ true) × (count + length z ≤ most_names)) (ap (fine_or []) e) (refl, omega arith)
    where
      fine_or : List (List ℕ) → ResultAt (List (List ℕ)) → List (List ℕ)
      fine_or d (Done a) = a
      fine_or d (RefusedAt k p) = d
  derived_grantable (a ∷ as') count ns l e = go (derived_grantable as') (grants_name a) (grantable a.value && ltb count most_names) refl e
    where
      go : ((c : ℕ) (ms : List (List ℕ)) → c ≤ most_names → names_from ps c as' ≡ Done ms → (all grantable ms ≡ true) × (c + length ms ≤ most_names)) → (x y : Bool)
          → (grantable a.value && ltb count most_names) ≡ y
          → elim x as (λ z. ResultAt (List (List ℕ))) [
            | true ↦ elim y as (λ z. ResultAt (List (List ℕ))) [ true ↦ with_name a.value (names_from ps (suc count) as') | false ↦ RefusedAt 16 a.place ]
            | false ↦ names_from ps count as'
          ] ≡ Done ns
          → (all grantable ns ≡ true) × (count + length ns ≤ most_names)
      go ih true true g f =
          let r = with_name_fine a.value (names_from ps (suc count) as') ns f in
          let fewer : count < most_names = ltb-true count most_names (and_right (grantable a.value) (ltb count most_names) g) in
          let u = ih (suc count) r.0 fewer r.1 in
          let room : suc count + length r.0 ≤ most_names = u.1 in
          subst (λ z. (all grantable z ≡ true) × (count + length z ≤ most_names)) r.2
          (both (grantable a.value) (all grantable r.0) (and_left (grantable a.value) (ltb count most_names) g) u.0, omega arith)
      go ih true false g f = absurd (refused_fine 16 a.place ns f)
      go ih false y g f = ih count ns l f

  -- So a question can grant them: they are at most 32, each of 1 to 20 name bytes.
  pub fit_a_question : (as' : List Assignment) (ns : List (List ℕ)) → names_from ps 0 as' ≡ Done ns
      → (all (λ n. between 1 20 (length n) && all name_byte n) ns ≡ true) × (length ns ≤ 32)
  fit_a_question as' ns e =
      let r = derived_grantable as' 0 ns (omega arith) e in
      let most : 0 + length ns ≤ 32 = r.1 in
      (r.0, omega arith)
