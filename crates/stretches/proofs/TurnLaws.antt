-- A day more: the stretch in hand, by the definition's walk.
use Prim.Native.Nat.{ℕ}
use mathlib.Core.Path.{◌≡◌, refl, sym, ◌∙◌, ap, subst}
use mathlib.Core.Bool.{Bool, true, false, ◌&&◌, not, false≢true}
use lib.Dec.{eqb}
use Rattle.std.specs.Ordering.{int_eq}
use Rattle.std.proofs.lemmas.Bool.Decides.{Decides-int_eq}
use borrow.Author.Tests.{eq-eqb, eqb-true}
use Rattle.rules.specs.Question.{currency_of}
use Rattle.rules.specs.Calendar.{Outcome, as_outcome, same_outcome}
use Rattle.rules.specs.declared.Outcome as Coded
use Rattle.rules.proofs.TestLaws.{and_left, and_right}
use Rattle.rules.proofs.CalendarLaws.{eq_of, same_outcome_lem}
use Rattle.rules.proofs.WalkLaws as Walk
use Rattle.stretches.specs.declared.Stretch as Declared
use Rattle.stretches.specs.Stretches.{Opened, Longer, Turned, TurnedBy}
use Rattle.stretches.specs.declared.turns.Turning.TheVariants.{Grown, Begun}

-- ---- the turn

-- what a comparison of outcomes in the code answers
abbrev tested : Coded.Outcome → Coded.Outcome → Bool
tested a b =
    int_eq a.unit.0 b.unit.0
    && (eqb a.refusal b.refusal && (eqb a.currency.0 b.currency.0 && (eqb a.currency.1 b.currency.1 && eqb a.currency.2 b.currency.2)))

tested_same : (a b : Coded.Outcome) → tested a b ≡ true → a ≡ b
tested_same a b e =
    let unit = (Decides-int_eq a.unit.0 b.unit.0).0 (and_left _ _ e) in
    let f = and_right (int_eq a.unit.0 b.unit.0) _ e in
    let refusal = eqb-true a.refusal b.refusal (and_left _ _ f) in
    let g = and_right (eqb a.refusal b.refusal) _ f in
    let first = eqb-true a.currency.0 b.currency.0 (and_left _ _ g) in
    let h = and_right (eqb a.currency.0 b.currency.0) _ g in
    let second = eqb-true a.currency.1 b.currency.1 (and_left _ _ h) in
    let third = eqb-true a.currency.2 b.currency.2 (and_right (eqb a.currency.1 b.currency.1) _ h) in
    λ i. record {
      unit = record { 0 = unit i };
      refusal = refusal i;
      currency = record { 0 = first i; 1 = second i; 2 = third i };
    }

tested_refl : (a : Coded.Outcome) → tested a a ≡ true
tested_refl a =
    rw ((Decides-int_eq a.unit.0 a.unit.0).1 refl, eq-eqb a.refusal a.refusal refl, eq-eqb a.currency.0 a.currency.0 refl, eq-eqb a.currency.1 a.currency.1 refl, eq-eqb a.currency.2 a.currency.2 refl)

pub outcome_same : {a b : Coded.Outcome} → false ≡ not (tested a b) → a ≡ b
outcome_same {a} {b} e = go (tested a b) refl e
  where
    go : (x : Bool) → tested a b ≡ x → false ≡ not x → a ≡ b
    go true h f = tested_same a b h
    go false h f = absurd (false≢true f)

pub outcome_other : {a b : Coded.Outcome} → true ≡ not (tested a b) → a ≡ b → ⊥
outcome_other {a} {b} e k = false≢true (sym (e ∙ ap not (subst (λ (x : Coded.Outcome). tested a x ≡ true) k (tested_refl a))))

-- an outcome of the code, of one of the definition
abbrev coded : Outcome → Coded.Outcome
coded o = record {
  unit = record { 0 = o.unit };
  refusal = o.refusal;
  currency = currency_of o.currency;
}

-- those of the code are the same if the definition's are
coded_same : {a b : Coded.Outcome} → as_outcome a ≡ as_outcome b → a ≡ b
coded_same e = ap coded e

module _ {f : ℕ → Outcome} {hand : Declared.Stretch} {d : ℕ} where
  grown : {r : Declared.Stretch} → Longer hand d r → as_outcome hand.outcome ≡ f d → Turned f hand d (Grown r)
  unfolding Walk.turned
  grown l e =
      let s : same_outcome (as_outcome hand.outcome) (f d) ≡ true = same_outcome_lem (as_outcome hand.outcome) (f d) e in
      record {
        fresh_is = rw s;
        is = rw s (l.is ∙ (λ i. record { first = hand.first.0; last = d; outcome = e i }));
      }

  begun : {o : Coded.Outcome} {new : Declared.Stretch} → Opened o d new → as_outcome o ≡ f d → same_outcome (as_outcome hand.outcome) (as_outcome o) ≡ false
      → Turned f hand d (Begun new)
  unfolding Walk.turned
  begun n e z =
      let s : same_outcome (as_outcome hand.outcome) (f d) ≡ false = ap (λ (x : Outcome). same_outcome (as_outcome hand.outcome) x) (sym e) ∙ z in
      record { fresh_is = rw s; is = rw s (n.is ∙ ap (Walk.opened d) e) }

module _ {hand : Declared.Stretch} {d : ℕ} {due : Bool} {o : Coded.Outcome} where
  -- another outcome on a day that is due
  pub turned_new : due ≡ true → (hand.outcome ≡ o → ⊥) → {new : Declared.Stretch} → Opened o d new → TurnedBy hand d due o (Begun new)
  turned_new e k n = record { of = λ f t. begun n (t.priced e) (other (same_outcome (as_outcome hand.outcome) (as_outcome o)) refl) }
    where
      other : (x : Bool) → same_outcome (as_outcome hand.outcome) (as_outcome o) ≡ x → same_outcome (as_outcome hand.outcome) (as_outcome o) ≡ false
      other true h = absurd (k (coded_same (eq_of (as_outcome hand.outcome) (as_outcome o) h)))
      other false h = h

  -- a day that is not due
  pub turned_quiet : due ≡ false → {r : Declared.Stretch} → Longer hand d r → TurnedBy hand d due o (Grown r)
  turned_quiet e l = record { of = λ f t. grown l (t.stays e) }

  -- or has the same outcome
  pub turned_same : due ≡ true → hand.outcome ≡ o → {r : Declared.Stretch} → Longer hand d r → TurnedBy hand d due o (Grown r)
  turned_same e k l = record { of = λ f t. grown l (ap as_outcome k ∙ t.priced e) }
