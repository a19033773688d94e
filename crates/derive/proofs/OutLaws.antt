-- What is read off the call's answer and its output: the question written, or where it was refused.
use Prim.Native.Nat.{ℕ, ◌≤◌, ◌<◌}
use mathlib.Core.Path.{◌≡◌, refl, sym, ◌∙◌, ap, ap₂, subst}
use mathlib.Core.Bool.{Bool, true, false}
use mathlib.Core.List.{List}
use mathlib.Core.Logic.{◌⊎◌, inl, inr}
use native.Mathlib.Omega.{arith}
use lib.Dec.{leb}
use lib.ListN.{length, take, drop}
use lib.Seq.{take_at, drop-append_seam}
use borrow.Author.Tests.{leb-true, leb-false}
use Rattle.rules.specs.PlacedRefusals.{ResultAt, Done, RefusedAt, ◌>>=◌, unless_so, lent_after_at}
use Rattle.rules.specs.declared.PlacedAnswer.{PlacedAnswer}
use Rattle.relation_rules.specs.Derived.{with_names, Derivation, derivation, derive}
use Rattle.relation_rules.specs.Calls.{shown_derive, lent_after_derive, DeriveIs}
use Rattle.derive.specs.Written.{most_named}
use Rattle.derive.proofs.NamedLaws.{named_short}
use Rattle.derive.proofs.DerivationLaws.{derived_from, Refuses, derivation_refuses, refuses_not}

-- the question with the names, in bytes
abbrev pub bytes_of : List ℕ → Derivation → List ℕ
bytes_of s d = with_names d.question d.names s

-- ---- the definition

module _ (s p t : List ℕ) (room : ℕ) where
  -- written, or refused as the derivation is, or for want of room
  pub data Outcome : ResultAt (List ℕ) → Type 0 where
    writes : (d : Derivation) → derivation s p t ≡ Done d → length (bytes_of s d) ≤ room → Outcome (Done (bytes_of s d))
    refuses : (n at : ℕ) → derivation s p t ≡ RefusedAt n at → Refuses n at → Outcome (RefusedAt n at)
    full : (d : Derivation) → derivation s p t ≡ Done d → room < length (bytes_of s d) → Outcome (RefusedAt 7 0)

  pub outcome : Outcome (derive s p t room)
  unfolding derive
  outcome = go (derivation s p t) refl
    where
      fit : (d : Derivation) → derivation s p t ≡ Done d → (b : Bool) → leb (length (bytes_of s d)) room ≡ b → Outcome (unless_so 7 b >>= λ _. Done (bytes_of s d))
      fit d e true f = writes d e (leb-true (length (bytes_of s d)) room f)
      fit d e false f = full d e (leb-false (length (bytes_of s d)) room f)

      go : (x : ResultAt Derivation) → derivation s p t ≡ x → Outcome (x >>= λ d. unless_so 7 (leb (length (bytes_of s d)) room) >>= λ _. Done (bytes_of s d))
      go (Done d) e = fit d e (leb (length (bytes_of s d)) room) refl
      go (RefusedAt n at) e = refuses n at e (derivation_refuses s p t n at e)

-- ---- the call

-- the question stands in front, and behind it all is as before
pub record Written (s p t lent : List ℕ) (r : PlacedAnswer) (after : List ℕ) : Type 0 where
  pub made : Derivation
  pub is : derivation s p t ≡ Done made
  pub long : r.length ≡ length (bytes_of s made)
  pub place : r.place ≡ 0
  pub front : take r.length after ≡ bytes_of s made
  pub rest : drop r.length after ≡ drop r.length lent

-- zeros beside number and place, and all bytes as before
pub record NotWritten (s p t lent : List ℕ) (r : PlacedAnswer) (after : List ℕ) : Type 0 where
  pub number : ((derivation s p t ≡ RefusedAt r.number r.place) × Refuses r.number r.place)
      ⊎ ((r.number ≡ 7) × (r.place ≡ 0) × ((d : Derivation) × (derivation s p t ≡ Done d) × (length lent < length (bytes_of s d))))
  pub length_0 : r.length ≡ 0
  pub output : after ≡ lent

module _ {s p t lent : List ℕ} {r : PlacedAnswer} {after : List ℕ} (call : DeriveIs s p t lent r after) where
  pub derive_out : r.number ≡ 0 → Written s p t lent r after
  unfolding shown_derive lent_after_at
  derive_out z = go (derive s p t (length lent)) (outcome s p t (length lent)) call.answer call.output
    where
      go : (x : ResultAt (List ℕ)) → Outcome s p t (length lent) x → r ≡ shown_derive x → after ≡ lent_after_derive x lent → Written s p t lent r after
      go _ (writes d e h) i o =
          let n : r.length ≡ length (bytes_of s d) = ap (λ (a : PlacedAnswer). a.length) i in
          record {
            made = d;
            is = e;
            long = n;
            place = ap (λ (a : PlacedAnswer). a.place) i;
            front = ap₂ (λ (k : ℕ) (l : List ℕ). take k l) n o ∙ take_at (bytes_of s d) (drop (length (bytes_of s d)) lent) (length (bytes_of s d)) refl;
            rest =
                ap₂ (λ (k : ℕ) (l : List ℕ). drop k l) n o
                ∙ (drop-append_seam (bytes_of s d) (drop (length (bytes_of s d)) lent) ∙ ap (λ (k : ℕ). drop k lent) (sym n));
          }
      go _ (refuses n at e h) i o = absurd (refuses_not h (sym (ap (λ (a : PlacedAnswer). a.number) i) ∙ z))
      go _ (full d e h) i o = absurd (omega (arith, z, ap (λ (a : PlacedAnswer). a.number) i))

  pub derive_not : (r.number ≡ 0 → ⊥) → NotWritten s p t lent r after
  unfolding shown_derive lent_after_at
  derive_not z = go (derive s p t (length lent)) (outcome s p t (length lent)) call.answer call.output
    where
      go : (x : ResultAt (List ℕ)) → Outcome s p t (length lent) x → r ≡ shown_derive x → after ≡ lent_after_derive x lent → NotWritten s p t lent r after
      go _ (writes d e h) i o = absurd (z (ap (λ (a : PlacedAnswer). a.number) i))
      go _ (refuses n at e h) i o = record {
        number = inl (subst (λ (a : PlacedAnswer). (derivation s p t ≡ RefusedAt a.number a.place) × Refuses a.number a.place) (sym i) (e, h));
        length_0 = ap (λ (a : PlacedAnswer). a.length) i;
        output = o;
      }
      go _ (full d e h) i o = record {
        number = inr (ap (λ (a : PlacedAnswer). a.number) i, ap (λ (a : PlacedAnswer). a.place) i, (d, e, h));
        length_0 = ap (λ (a : PlacedAnswer). a.length) i;
        output = o;
      }

  -- where every question with names has room, the derivation was refused
  pub derive_refused : most_named ≤ length lent → (r.number ≡ 0 → ⊥) → derivation s p t ≡ RefusedAt r.number r.place
  derive_refused room z = go (derive_not z).number
    where
      go : ((derivation s p t ≡ RefusedAt r.number r.place) × Refuses r.number r.place)
          ⊎ ((r.number ≡ 7) × (r.place ≡ 0) × ((d : Derivation) × (derivation s p t ≡ Done d) × (length lent < length (bytes_of s d))))
          → derivation s p t ≡ RefusedAt r.number r.place
      go (inl x) = x.0
      go (inr x) =
          let d = x.2.0 in
          let f = derived_from s p t d x.2.1 in
          absurd (omega (arith, room, x.2.2, named_short s d.question f.asked f.none d.names f.good f.few))
