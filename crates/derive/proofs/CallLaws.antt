-- The call, refusal by refusal in their order, and the question that is written.
use Prim.Native.Nat.{ℕ, zero, suc, ◌+◌, ◌-◌, ◌≤◌}
use mathlib.Core.Path.{◌≡◌, refl, sym, ◌∙◌, ap, subst}
use mathlib.Core.Bool.{Bool, true, false, not, false≢true}
use mathlib.Core.List.{List, []}
use mathlib.Core.Option.{Option, some, none, some-injective}
use native.Mathlib.Omega.{arith}
use lib.ListN.{length, take, drop, length-drop, length-map}
use lib.Seq.{length-take-le}
use borrow.Author.Tests.{le-leb, lt-leb}
use Rattle.rules.specs.Lists.{is_some, if_some, all}
use Rattle.rules.specs.Question.{Question, question_of}
use Rattle.rules.specs.PlacedRefusals.{ResultAt, Done, RefusedAt, ◌>>=◌, lent_after_at}
use Rattle.rules.specs.declared.PlacedAnswer.{PlacedAnswer}
use Rattle.rules.proofs.TestLaws.{so, not_so}
use Rattle.rules.proofs.ListLaws.{absent, present}
use Rattle.layout.specs.Counted.{values_at}
use Rattle.question.specs.declared.Ask.{Ask}
use Rattle.question.specs.Asked.{ask_in, AskIs}
use Rattle.relation_rules.specs.Truth.{Held, properties_of, grantable}
use Rattle.relation_rules.specs.Derived.{derived, with_names, Derivation, derivation, derive}
use Rattle.relation_rules.specs.Calls.{shown_derive, lent_after_derive, DeriveIs}
use Rattle.relations.specs.declared.names.Names.{Names}
use Rattle.relation_truth.specs.Values.{held_in}
use Rattle.relations.specs.declared.told.Refused.{Refused}
use Rattle.relations.specs.Assignments.{part_in}
use Rattle.relations.specs.Names.{names_of, parts_in, NamesTell, RefusalTells}
use Rattle.rules.specs.Reasons.{number_for}
use Rattle.rules.specs.declared.Part.{Part}
use native.Mathlib.Numerals.{add-one}
use Rattle.derive.specs.Written.{no_part, named_at, Fitting, RefusedWith, NotAsked, GrantsNone, if_room, PutIs}
use Rattle.derive.proofs.NamedLaws.{named_long, named_short}
use Rattle.derive.proofs.DerivationLaws.{names_fit}

-- ---- the question

values_count : {A : Type 0} (value : List ℕ → ℕ → A) (stop : List ℕ → ℕ → ℕ) (s : List ℕ) (at n : ℕ) → length (values_at value stop s at n) ≡ n
unfolding values_at
values_count value stop s at zero = refl
values_count value stop s at (suc n) = ap suc (values_count value stop s (stop s at) n)

module _ (s : List ℕ) {t : Bool} (e : t ≡ is_some (question_of s)) where
  pub no_question : not t ≡ true → NotAsked s
  no_question h = record { grants = λ q i. absurd (false≢true (sym (not_so t h) ∙ e ∙ ap is_some i)) }

  pub question_there : not t ≡ false → is_some (question_of s) ≡ true
  question_there h = sym e ∙ so t h

module _ (s : List ℕ) {ask : Ask} (is : AskIs s ask) where
  granted_count : length (ask_in s ask).granted ≡ ask.conditions
  granted_count = values_count _ _ s ask.granted ask.conditions

  pub grants_some : (ask.conditions ≡ 0 → ⊥) → NotAsked s
  grants_some h = record {
    grants = λ q i.
        let same_question : ask_in s ask ≡ q = some-injective (ask_in s ask) q (sym is.is ∙ i) in
        lt-leb (length q.granted) 0 (omega (arith, h, granted_count, ap (λ (x : Question). length x.granted) same_question));
  }

  pub grants_none : ask.conditions ≡ 0 → GrantsNone s (ask.granted - 1)
  grants_none h = record {
    question = ask_in s ask;
    is = is.is;
    none = le-leb (length (ask_in s ask).granted) 0 (omega (arith, granted_count));
    stands =
        let size : length (take ask.article.size (drop ask.article.at s)) ≡ ask.article.size =
        length-take-le ask.article.size (drop ask.article.at s) (omega (arith, is.inside, length-drop ask.article.at s)) in
        omega (arith, size, is.granted_at_lem, is.article_at);
    inside = omega (arith, is.names.fits, is.granted_at_lem, is.article_at);
  }

-- ---- the names

pub stop_low : {s : List ℕ} {o : ResultAt (List (List ℕ))} {m : Refused} → RefusalTells s o m → m.at ≤ length s
stop_low r = r.most

module _ (s p t old : List ℕ) where
  refused : {n at : ℕ} → derivation s p t ≡ RefusedAt n at → {r : PlacedAnswer} → RefusedWith n at r → DeriveIs s p t old r old
  unfolding derive shown_derive lent_after_at
  refused e q = record { answer = q.is ∙ rw e refl; output = rw e refl }

  -- no question, or one that grants names
  pub not_asked : NotAsked s → {r : PlacedAnswer} → RefusedWith 2 0 r → DeriveIs s p t old r old
  unfolding derivation
  not_asked c = refused (go (question_of s) refl (properties_of p) refl)
    where
      go : (o : Option Question) → question_of s ≡ o → (h : Option (List Held)) → properties_of p ≡ h → derivation s p t ≡ RefusedAt 2 0
      go none e o f = rw e refl
      go (some q) e none f = rw (e, f) refl
      go (some q) e (some ps) f = rw (e, f, c.grants q e) refl

  module _ {at : ℕ} (asked : GrantsNone s at) {x : Bool} (e : x ≡ is_some (properties_of p)) where
    pub no_properties : x ≡ false → {r : PlacedAnswer} → RefusedWith 2 0 r → DeriveIs s p t old r old
    unfolding derivation
    no_properties h = let f = absent (properties_of p) (sym e ∙ h) in refused (rw (asked.is, f) refl)

    module _ (h : x ≡ true) where
      pub properties_there : is_some (properties_of p) ≡ true
      properties_there = sym e ∙ h

      held : properties_of p ≡ some (held_in p)
      held = let y = present (properties_of p) properties_there in y.1 ∙ ap some (sym (ap (λ (o : Option (List Held)). if_some o [] (λ ps. ps)) y.1))

      pub not_derived : {m : Refused} → RefusalTells t (derived (held_in p) t) m → {r : PlacedAnswer} → RefusedWith (number_for m.refusal) (m.at + 1) r → DeriveIs s p t old r old
      unfolding derivation
      not_derived {m} told q = refused (rw (asked.is, held, asked.none, told.is, add-one m.at) refl) q

      module _ {k : Names} (told : NamesTell t (derived (held_in p) t) k) where
        abbrev names : List (List ℕ)
        names = names_of t (parts_in k)

        named : derivation s p t ≡ Done (record { question = asked.question; names = names })
        unfolding derivation
        named = rw (asked.is, held, asked.none, told.is) refl

        good : (all grantable names ≡ true) × (length names ≤ 32)
        good = names_fit (held_in p) t names told.is

        -- any slice that holds those parts
        pub names_fitting : {parts : List Part} → parts ≡ parts_in k → Fitting s at t parts
        names_fitting f = subst (Fitting s at t) (sym f) (record {
          low = omega (arith, asked.stands);
          inside = asked.inside;
          few = record { few = omega (arith, good.1, length-map (parts_in k) (part_in t)); short = λ i l. (told.each i no_part l).short };
          names = record { inside = λ i l. (told.each i no_part l).inside };
          short = omega (
            arith,
            named_long s asked.question asked.is asked.none names good.0 good.1,
            named_short s asked.question asked.is asked.none names good.0 good.1,
          );
        })

        pub derived_put : {parts : List Part} → parts ≡ parts_in k → {r : PlacedAnswer} {after : List ℕ} → PutIs (named_at at (names_of t parts) s) old r after → DeriveIs s p t old r after
        unfolding derive with_names if_room
        derived_put f {r} {after} put' =
            let put : PutIs (named_at at names s) old r after = subst (λ ps. PutIs (named_at at (names_of t ps) s) old r after) f put' in
            let new : with_names asked.question names s ≡ named_at at names s = ap (λ (m : ℕ). named_at m names s) asked.stands in
            let is : derive s p t (length old) ≡ if_room (length old) (named_at at names s) =
            ap (λ (x : ResultAt Derivation). x >>= λ d. if_room (length old) (with_names d.question d.names s)) named ∙ ap (if_room (length old)) new in
            record {
              answer = put.answer ∙ ap shown_derive (sym is);
              output = put.output ∙ ap (λ (x : ResultAt (List ℕ)). lent_after_derive x old) (sym is);
            }
