-- What a caller of the call that derives can rely on, whatever the bytes: said of any answer and any output that its contract allows.
use Prim.Native.Nat.{ℕ, ◌≤◌}
use mathlib.Core.Path.{◌≡◌, sym, ◌∙◌, ap}
use mathlib.Core.List.{List}
use mathlib.Core.Logic.{◌⊎◌, inl, inr}
use native.Mathlib.Omega.{arith}
use lib.ListN.{length, take, drop}
use Rattle.rules.specs.Question.{question_of}
use Rattle.rules.specs.PlacedRefusals.{RefusedAt}
use Rattle.rules.specs.declared.PlacedAnswer.{PlacedAnswer}
use Rattle.relation_rules.specs.Derived.{derivation}
use Rattle.relation_rules.specs.Calls.{DeriveIs}
use Rattle.derive.specs.Granting.{Granting}
use Rattle.derive.specs.Written.{most_named}
use Rattle.derive.proofs.NamedLaws.{named_short, named_reads}
use Rattle.derive.proofs.DerivationLaws.{derived_from, Refuses}
use Rattle.derive.proofs.OutLaws.{derive_out, derive_not, derive_refused}

-- number and place of a refusal, and zero
abbrev refused_by : ℕ → ℕ → PlacedAnswer
refused_by number place = record { length = 0; place = place; number = number }

module _ {s p t lent : List ℕ} {r : PlacedAnswer} {after : List ℕ} (is : DeriveIs s p t lent r after) where
  -- With the number 0 the bytes in front are a question, and it is the question that was handed over with the names granted that the text derives,
  -- each with the factor 1,000; behind these bytes the output is as it was.
  pub grants_derived : r.number ≡ 0 → Granting s p t (take r.length after) × (r.place ≡ 0) × (drop r.length after ≡ drop r.length lent)
  grants_derived z =
      let out = derive_out is z in
      let d = out.made in
      let from = derived_from s p t d out.is in (
        record {
          question = d.question;
          is_question = from.asked;
          held = from.held;
          are_properties = from.properties;
          names = d.names;
          are_derived = from.names;
          reads = ap question_of out.front ∙ named_reads s d.question from.asked from.none d.names from.good from.few;
        },
        out.place,
        out.rest,
      )

  -- It has at most 1,852 bytes.
  pub short_enough : r.number ≡ 0 → r.length ≤ most_named
  short_enough z =
      let out = derive_out is z in
      let d = out.made in
      let from = derived_from s p t d out.is in
      omega (arith, out.long, named_short s d.question from.asked from.none d.names from.good from.few)

  -- Any other number is 2, without a place, or 14, 15 or 16 with the place where the text stops, or 7, without a place; beside them stands zero, and every byte
  -- of the output is as it was.
  pub refused_whole : (r.number ≡ 0 → ⊥) → (Refuses r.number r.place ⊎ ((r.number ≡ 7) × (r.place ≡ 0))) × (r ≡ refused_by r.number r.place) × (after ≡ lent)
  refused_whole z =
      let out = derive_not is z in
      (go out.number, λ i. record { length = out.length_0 i; place = r.place; number = r.number }, out.output)
    where
      go : {d c : Type 0}
          → ((c × Refuses r.number r.place) ⊎ ((r.number ≡ 7) × (r.place ≡ 0) × d)) → Refuses r.number r.place ⊎ ((r.number ≡ 7) × (r.place ≡ 0))
      go (inl x) = inl x.1
      go (inr x) = inr (x.0, x.1)

  -- Room for 1,852 bytes is enough: with so much, 7 is never said, and the refusal is that of the derivation.
  pub room_enough : most_named ≤ length lent → (r.number ≡ 0 → ⊥) → derivation s p t ≡ RefusedAt r.number r.place
  room_enough h z = derive_refused is h z

  -- Two results that the contract allows are equal, and so are the bytes they leave.
  pub only_derive : {r' : PlacedAnswer} {after' : List ℕ} → DeriveIs s p t lent r' after' → (r ≡ r') × (after ≡ after')
  only_derive is' = (is.answer ∙ sym is'.answer, is.output ∙ sym is'.output)
