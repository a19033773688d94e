-- The price with derived names, refusal by refusal in their order, and the answer.
use Prim.Native.Nat.{ℕ, ◌≤◌}
use mathlib.Core.Path.{◌≡◌, refl, sym, ◌∙◌, ap, subst}
use mathlib.Core.Bool.{true}
use mathlib.Core.List.{List}
use mathlib.Core.Option.{Option, some, none, some-injective}
use native.Mathlib.Omega.{arith}
use lib.ListN.{length, take, drop, length-append, take-append-drop}
use Rattle.rules.specs.Lists.{is_some}
use Rattle.rules.specs.Book.{Record}
use Rattle.rules.specs.BookLayout.{records}
use Rattle.rules.specs.Question.{Question, question_of}
use Rattle.rules.specs.Reasons.{number_for}
use Rattle.rules.specs.declared.Refusal.{Refusal}
use Rattle.rules.specs.PlacedRefusals.{ResultAt, RefusedAt, lent_after_at}
use Rattle.rules.specs.Price.{Answer}
use Rattle.rules.specs.declared.PlacedAnswer.{PlacedAnswer}
use Rattle.layout.specs.Records.{records_left}
use Rattle.question.specs.Asked.{ask_in}
use Rattle.book.proofs.WalkLaws.{book_left}
use Rattle.survey.specs.declared.entrance.Entered.{Entered}
use Rattle.survey.specs.Survey.{FoundIs}
use Rattle.survey.specs.Entrance.{entry, Entering, KeptOut}
use Rattle.survey.proofs.EntranceLaws.{has_number}
use Rattle.price.specs.Answered.{answered_to, Ready}
use Rattle.relation_rules.specs.Derived.{granting, derivation, price_derived}
use Rattle.relation_rules.specs.Calls.{shown_derived, lent_after_derived, DeriveIs, DerivedIs}
use Rattle.relation_rules.specs.declared.DerivedAnswer.{DerivedAnswer}
use Rattle.relation_rules.proofs.DerivedLaws.{derived_no_book, derived_refused}
use Rattle.derive.specs.Written.{most_named}
use Rattle.derive.proofs.NamedLaws.{named_reads}
use Rattle.derive.proofs.DerivationLaws.{From, derived_from}
use Rattle.derive.proofs.OutLaws.{Written, derive_out, derive_refused}
use Rattle.derived_price.specs.declared.Refused.{Refused}
use Rattle.derived_price.specs.Price.{Unplaced, refused_by, RefusalIs, PlainIs, without_place, priced_in, PricedIs}
use Rattle.derived_price.proofs.PricedLaws.{zeros, zeros_count}

-- ---- the question with the names

all_fit : most_named ≤ length (zeros 2048)
all_fit = omega (arith, zeros_count 2048)

module _ {s p t : List ℕ} {d : PlacedAnswer} {asked : List ℕ} (wrote : DeriveIs s p t (zeros 2048) d asked) (y : d.number ≡ 0) where
  made_from : From s p t (derive_out wrote y).made
  made_from = derived_from s p t (derive_out wrote y).made (derive_out wrote y).is

  pub named_long : length (take d.length asked) ≡ d.length
  named_long = ap length (derive_out wrote y).front ∙ sym (derive_out wrote y).long

  pub named_fits : d.length ≤ length asked
  named_fits = omega (arith, named_long, length-append (take d.length asked) (drop d.length asked), ap length (take-append-drop d.length asked))

-- ---- the call

module _ (b s p t lent : List ℕ) where
  abbrev result : ResultAt Answer
  result = price_derived b s p t (length lent)

  refuses : {k at : ℕ} → result ≡ RefusedAt k at → DerivedIs b s p t lent (refused_by k at) lent
  unfolding shown_derived lent_after_at
  refuses e = record { answer = ap shown_derived (sym e); output = ap (λ (x : ResultAt Answer). lent_after_derived x lent) (sym e) }

  -- a reason without a place
  pub placed_refused : {x : Refusal} {r : Refused} → Unplaced x r → {after : List ℕ} → DerivedIs b s p t lent (refused_by (number_for x) 0) after
      → DerivedIs b s p t lent (refused_by r.number r.place) after
  placed_refused u d = rw u.is d

  -- ---- 1, and 2 for the question

  pub kept_out : {x : Refusal} → KeptOut b s x → {r : Refused} → Unplaced x r → DerivedIs b s p t lent (refused_by r.number r.place) lent
  unfolding entry derivation
  kept_out {x} told u = placed_refused u (refuses (go (records b) refl (question_of s) refl told.number_is))
    where
      go : (o : Option (List Record)) → records b ≡ o → (q : Option Question) → question_of s ≡ q → entry o q ≡ number_for x → result ≡ RefusedAt (number_for x) 0
      go none e q f i = derived_no_book b s p t (length lent) e ∙ ap (λ (k : ℕ). RefusedAt k 0) i
      go (some book) e none f i =
          let d : derivation s p t ≡ RefusedAt 2 0 = rw f refl in
          derived_refused b s p t (length lent) book 2 0 e d ∙ ap (λ (k : ℕ). RefusedAt k 0) i
      go (some book) e (some q) f i = absurd (has_number x (sym i))

  module _ {w : Entered} (told : Entering b s w) where
    book_there : records b ≡ some (records_left b 5)
    unfolding entry
    book_there = book_left b (go (records b) (question_of s) told.number_is)
      where
        go : (o : Option (List Record)) (q : Option Question) → entry o q ≡ 0 → is_some o ≡ true
        go none q i = absurd (omega (arith, i))
        go (some book) q i = refl

    -- ---- 2, 14, 15 and 16, which the derivation gives

    module _ {d : PlacedAnswer} {asked : List ℕ} (wrote : DeriveIs s p t (zeros 2048) d asked) where
      pub not_derived : (d.number ≡ 0 → ⊥) → DerivedIs b s p t lent (refused_by d.number d.place) lent
      not_derived n = refuses (derived_refused b s p t (length lent) (records_left b 5) d.number d.place book_there (derive_refused wrote all_fit n))

      module _ (y : d.number ≡ 0) where
        abbrev out : Written s p t (zeros 2048) d asked
        out = derive_out wrote y

        abbrev from : From s p t out.made
        from = made_from wrote y

        abbrev named : Question
        named = granting out.made.question out.made.names

        reads : question_of (take d.length asked) ≡ some named
        reads = ap question_of out.front ∙ named_reads s out.made.question from.asked from.none out.made.names from.good from.few

        -- what was found for the question is what there is for it
        pub named_ready : Ready b (take d.length asked) w.found
        unfolding granting
        named_ready = record {
          ok = ap is_some reads;
          has = λ q e.
              let same_question : ask_in s w.ask ≡ out.made.question =
              some-injective (ask_in s w.ask) out.made.question (sym told.ask_is.is ∙ from.asked) in
              let is_q : named ≡ q = some-injective named q (sym reads ∙ e) in
              subst (λ (x : Question). FoundIs b x.article x.sort w.found) is_q
              (subst (λ (x : Question). FoundIs b x.article x.sort w.found) same_question told.found_is);
        }

        -- ---- 3 to 7, and the answer

        pub named_priced : {r : DerivedAnswer} {after : List ℕ} → PricedIs (records_left b 5) (take d.length asked) lent r after → DerivedIs b s p t lent r after
        unfolding price_derived priced_in answered_to
        named_priced q =
            let is : result ≡ priced_in (records_left b 5) (take d.length asked) (length lent) = rw (book_there, out.is, reads) refl in
            record {
              answer = q.answer ∙ ap shown_derived (sym is);
              output = q.output ∙ ap (λ (x : ResultAt Answer). lent_after_derived x lent) (sym is);
            }
