-- The names that a whole text derives, assignment by assignment.
use Prim.Native.Nat.{ℕ, suc, ◌≤◌, ◌<◌}
use mathlib.Core.Path.{◌≡◌, refl, sym, ◌∙◌, ap, subst}
use mathlib.Core.Bool.{Bool, true, false, ◌&&◌}
use mathlib.Core.List.{List, []}
use mathlib.Core.Option.{Option, some, none}
use native.Mathlib.Omega.{arith}
use native.Mathlib.Nat.{zero-add}
use lib.Dec.{ltb}
use lib.ListN.{length, drop, drop_of_length-le}
use Rattle.std.specs.Prelude.{Ok, Err}
use Rattle.std.specs.declared.result.Result.{Result}
use Rattle.relation_rules.specs.Grammar.{Chain, further, Assignment, deepest}
use Rattle.rules.specs.PlacedRefusals.{ResultAt, Done, RefusedAt}
use Rattle.relation_rules.specs.Reader.{Between, run, relation_of}
use Rattle.relation_rules.specs.Parts.{behind_assignment, AtStart, Assigned}
use Rattle.relation_rules.specs.Truth.{Held, granted_by, grantable, most_names, names_from}
use Rattle.relation_rules.specs.Derived.{derived}
use Rattle.relation_rules.proofs.MoveLaws.{starts, starts_again, ends, listed, listed_more, names_more, grown}
use Rattle.relation_words.proofs.TokenLaws.{gap_moves}
use Rattle.relations.specs.declared.assignments.Assigned.{Assigned as OneTold}
use Rattle.relations.specs.declared.conditions.Next.{Next}
use Rattle.relations.specs.declared.conditions.Next.TheVariants.{And, Or, Closed, End}
use Rattle.relations.specs.declared.names.Names.{Names}
use Rattle.relations.specs.declared.told.Refused.{Refused}
use Rattle.relations.specs.Names.{Tells, NamesIs, with_name, Grows}
use Rattle.relations.specs.Assignments.{part_in, AssignmentOver, AssignmentStop}
use Rattle.relations.proofs.NameLaws.{tell_none}

-- ---- an assignment more

-- the laws of the rules say it of the assignment itself
grown_is : (ps : List Held) (a : Assignment) (o : ResultAt (List (List ℕ))) → grown ps 0 o a ≡ with_name (granted_by ps a.condition) a.place a.value o
unfolding grown with_name
grown_is ps a (Done ns) = go (granted_by ps a.condition) (grantable a.value && ltb (length ns) most_names) refl refl
  where
    go : (x y : Bool) → granted_by ps a.condition ≡ x → (grantable a.value && ltb (length ns) most_names) ≡ y
        → grown ps 0 (Done ns) a ≡ with_name (granted_by ps a.condition) a.place a.value (Done ns)
    go true true e f = rw (zero-add (length ns), e, f) refl
    go true false e f = rw (zero-add (length ns), e, f) refl
    go false y e f = rw e refl
grown_is ps a (RefusedAt k p) = refl

more_names : (ps : List Held) (d : Option (Chain Assignment)) (a : Assignment)
    → names_from ps 0 (listed (some (further d a))) ≡ with_name (granted_by ps a.condition) a.place a.value (names_from ps 0 (listed d))
more_names ps d a = ap (names_from ps 0) (listed_more d a) ∙ names_more ps (listed d) 0 a ∙ grown_is ps a (names_from ps 0 (listed d))

derived_done : (ps : List Held) (s : List ℕ) (tree : Chain Assignment) → relation_of s ≡ Done tree → names_from ps 0 (listed (some tree)) ≡ derived ps s
unfolding derived
derived_done ps s tree e = sym (rw e refl)

derived_wrong : (ps : List Held) (s : List ℕ) (k p : ℕ) → relation_of s ≡ RefusedAt k p → derived ps s ≡ RefusedAt k p
unfolding derived
derived_wrong ps s k p e = rw e refl

-- ---- the text

-- the assignments so far, up to `at`, and what they derive
pub record NamesSo (ps : List Held) (s : List ℕ) (at : ℕ) (names : Result Names Refused) : Type 0 where
  pub done : Option (Chain Assignment)
  pub most : at ≤ length s
  pub start : AtStart deepest s done (suc at) (drop at s)
  pub tells : Tells s (names_from ps 0 (listed done)) names

pub names_start : {ps : List Held} {s : List ℕ} {r : Names} → r.count ≡ 0 → NamesSo ps s 0 (Ok r)
unfolding names_from
names_start {ps} {s} b = record { done = none; most = omega arith; start = starts deepest s; tells = tell_none b }

module _ {ps : List Held} {s : List ℕ} {at : ℕ} {names : Result Names Refused} (g : NamesSo ps s at names) where
  pub names_wrong : {e : Refused} → AssignmentStop s at e → NamesIs s ps (Err e)
  unfolding relation_of
  names_wrong {e} r = record { most = r.most; is = derived_wrong ps s _ _ (g.start.moves ∙ r.wrong g.done) }

  module _ {one : OneTold} (r : AssignmentOver ps s at one) where
    abbrev here : Assignment
    here = record { place = suc one.variable; value = part_in s one.name; condition = r.condition }

    so_far : Assigned deepest s g.done (suc one.variable) (part_in s one.name) r.condition (suc one.to) (drop one.to s)
    so_far = record { moves = g.start.moves ∙ r.moves g.done }

    module _ (new : Result Names Refused) (w : Grows s names one new) where
      tells_more : Tells s (names_from ps 0 (listed (some (further g.done here)))) new
      tells_more =
          subst (λ o. Tells s o new)
          (ap (λ b. with_name b (suc one.variable) (part_in s one.name) (names_from ps 0 (listed g.done))) (sym r.grants) ∙ sym (more_names ps g.done here))
          (w.grows (names_from ps 0 (listed g.done)) g.tells)

      pub names_end : one.join.next ≡ End → NamesIs s ps new
      unfolding relation_of
      names_end f =
          let j = r.follows.joined in
          let q = behind_assignment g.done (suc one.variable) (part_in s one.name) r.condition in
          subst (λ o. Tells s o new)
          (derived_done ps s (further g.done here)
          (ends deepest {d = g.done} {p = suc one.variable} {x = part_in s one.name} {o = r.condition} []
          (record { moves = so_far.moves ∙ gap_moves (j.end f) deepest q ∙ ap (run deepest (suc one.join.after) (Between q)) (drop_of_length-le s (at_end_lem (j.over f))) })
          refl))
          tells_more
        where
          at_end_lem : one.join.after ≡ length s → length s ≤ one.join.after
          at_end_lem m = omega arith

      comma_next : (one.join.next ≡ End → ⊥) → one.join.next ≡ Closed
      comma_next f = go one.join.next refl
        where
          go : (k : Next) → one.join.next ≡ k → one.join.next ≡ Closed
          go And e = absurd (r.follows.no_and e)
          go Or e = absurd (r.follows.no_or e)
          go Closed e = e
          go End e = absurd (f e)

      pub names_on : (one.join.next ≡ End → ⊥) → NamesSo ps s one.join.after new
      names_on f =
          let j = r.follows.joined in
          record { done = some (further g.done here); most = j.most; start = starts_again deepest so_far (j.close (comma_next f)); tells = tells_more }

    pub names_further : (one.join.next ≡ End → ⊥) → at < one.join.after
    names_further f =
        let a : at ≤ one.to = r.on in
        let b : one.to < one.join.after = r.follows.joined.further f in
        omega arith

    pub names_most : one.join.after ≤ length s
    names_most = r.follows.joined.most
