-- What a caller of the price with derived names can rely on, whatever the bytes: said of any answer and any output that its contract allows.
use Prim.Native.Nat.{ℕ, ◌≤◌}
use mathlib.Core.Path.{◌≡◌, refl, sym, ◌∙◌, ap, subst}
use mathlib.Core.Bool.{Bool, true, false}
use mathlib.Core.List.{List}
use mathlib.Core.Option.{Option, some, none}
use native.Mathlib.Omega.{arith}
use lib.Dec.{leb}
use lib.ListN.{length, take}
use Rattle.rules.specs.Book.{Record}
use Rattle.rules.specs.BookLayout.{records}
use Rattle.rules.specs.Question.{question_of}
use Rattle.rules.specs.Refusals.{Result, done, refused, refuse_unless, lent_after}
use Rattle.rules.specs.Refusals as Refusals
use Rattle.rules.specs.PlacedRefusals.{ResultAt, Done, RefusedAt, ◌>>=◌, or_refuse_at, lent_after_at}
use Rattle.rules.specs.Price.{Answer, written, answered, in_room, price, shown, lent_after_price}
use Rattle.rules.specs.declared.PriceAnswer.{PriceAnswer}
use Rattle.rules.specs.declared.PlacedAnswer.{PlacedAnswer}
use Rattle.rules.proofs.RefusalLaws.{Refuses as Refusing}
use Rattle.rules.proofs.CallLaws.{answered_refuses}
use Rattle.price.specs.Call.{PriceIs}
use Rattle.relation_rules.specs.Derived.{granting, Derivation, derivation, unplaced, price_derived}
use Rattle.relation_rules.specs.Calls.{shown_derived, lent_after_derived, DeriveIs, DerivedIs}
use Rattle.relation_rules.specs.declared.DerivedAnswer.{DerivedAnswer}
use Rattle.relation_rules.proofs.DerivedLaws.{derived_price_lem, derived_no_book, derived_refused}
use Rattle.derive.specs.Written.{most_named}
use Rattle.derive.proofs.NamedLaws.{named_reads}
use Rattle.derive.proofs.DerivationLaws.{derived_from, Refuses, derivation_refuses}
use Rattle.derive.proofs.OutLaws.{derive_out, derive_refused}
use Rattle.derived_price.specs.Price.{refused_by, without_place}

-- ---- an answer without a place

shown_same : (x : Result Answer) → shown_derived (unplaced x) ≡ without_place (shown x)
unfolding shown shown_derived
shown_same (done a) = refl
shown_same (refused n) = refl

lent_same : (x : Result Answer) (lent : List ℕ) → lent_after_derived (unplaced x) lent ≡ lent_after_price x lent
unfolding lent_after lent_after_at
lent_same (done a) lent = refl
lent_same (refused n) lent = refl

-- where a question is written, the result is that of its price, whatever the book
same_result : (b s p t : List ℕ) (room : ℕ) (d : Derivation) (s' : List ℕ) → derivation s p t ≡ Done d → question_of s' ≡ some (granting d.question d.names)
    → price_derived b s p t room ≡ unplaced (price b s' room)
unfolding price
same_result b s p t room d s' e f = go (records b) refl
  where
    go : (o : Option (List Record)) → records b ≡ o → price_derived b s p t room ≡ unplaced (price b s' room)
    go none g = derived_no_book b s p t room g ∙ rw g refl
    go (some book) g = derived_price_lem b s p t room book d s' g e f

-- ---- which refusals there are, in their order

pub data Refused : ℕ → ℕ → Type 0 where
  not_a_book : Refused 1 0
  not_derived : {n at : ℕ} → Refuses n at → Refused n at
  not_priced : {n : ℕ} → 3 ≤ n → n ≤ 7 → Refused n 0

abbrev RefusedIn : ResultAt Answer → Type 0
RefusedIn (Done a) = Unit {0}
RefusedIn (RefusedAt n at) = Refused n at

result_refused : (b s p t : List ℕ) (room : ℕ) → RefusedIn (price_derived b s p t room)
unfolding price_derived
result_refused b s p t room = book_first (records b)
  where
    in_room_lem : (a : Answer) (fits : Bool) → RefusedIn (unplaced (Refusals.◌>>=◌ (refuse_unless 7 fits) (λ _. done a)))
    in_room_lem a true = tt
    in_room_lem a false = not_priced {n = 7} (omega arith) (omega arith)

    priced_last : (x : Result Answer) → Refusing (λ n. (3 ≤ n) × (n ≤ 7)) x → RefusedIn (unplaced x >>= λ a. unplaced (in_room room a))
    priced_last (done a) h = in_room_lem a (leb (length (written a)) room)
    priced_last (refused n) h = not_priced h.0 h.1

    then_derived : (book : List Record) (x : ResultAt Derivation) → derivation s p t ≡ x
        → RefusedIn (x >>= λ d. unplaced (answered book (granting d.question d.names)) >>= λ a. unplaced (in_room room a))
    then_derived book (Done d) e =
        let q = granting d.question d.names in
        priced_last (answered book q)
        (answered_refuses (λ n. (3 ≤ n) × (n ≤ 7)) (omega arith, omega arith) (omega arith, omega arith) (omega arith, omega arith) (omega arith, omega arith) book q)
    then_derived book (RefusedAt n at) e = not_derived (derivation_refuses s p t n at e)

    book_first : (o : Option (List Record))
        → RefusedIn (or_refuse_at 1 0 o >>= λ book. derivation s p t >>= λ d. unplaced (answered book (granting d.question d.names)) >>= λ a. unplaced (in_room room a))
    book_first none = not_a_book
    book_first (some book) = then_derived book (derivation s p t) refl

-- ---- the call

module _ {b s p t lent : List ℕ} {r : DerivedAnswer} {after : List ℕ} (is : DerivedIs b s p t lent r after) where
  shows : (x : ResultAt Answer) → price_derived b s p t (length lent) ≡ x → (r ≡ shown_derived x) × (after ≡ lent_after_derived x lent)
  shows x e = (is.answer ∙ ap shown_derived e, is.output ∙ ap (λ (y : ResultAt Answer). lent_after_derived y lent) e)

  refused_so : (n at : ℕ) → price_derived b s p t (length lent) ≡ RefusedAt n at → (r ≡ refused_by n at) × (after ≡ lent)
  unfolding shown_derived lent_after_at
  refused_so n at e = shows (RefusedAt n at) e

  -- A book that is none is refused first: 1, without a place.
  pub first_the_book : records b ≡ none → (r ≡ refused_by 1 0) × (after ≡ lent)
  first_the_book e = refused_so 1 0 (derived_no_book b s p t (length lent) e)

  module _ {room : List ℕ} {d : PlacedAnswer} {out : List ℕ} (made : DeriveIs s p t room d out) where
    -- Then come the refusals of the call that derives, with their places: whatever it refuses where there is room for 1,852 bytes (2, 14, 15 or 16), this call
    -- refuses with the same number at the same place.
    pub then_the_text : {book : List Record} → records b ≡ some book → most_named ≤ length room → (d.number ≡ 0 → ⊥) → (r ≡ refused_by d.number d.place) × (after ≡ lent)
    then_the_text {book} e h n = refused_so d.number d.place (derived_refused b s p t (length lent) book d.number d.place e (derive_refused made h n))

    -- Where the call that derives writes a question, the answer is that of the price call for this question, field by field (refusals 3 to 7 among them), its place
    -- is 0, and the output is the same.
    pub as_priced : d.number ≡ 0 → {a : PriceAnswer} {after' : List ℕ} → PriceIs b (take d.length out) lent a after' → (r ≡ without_place a) × (after ≡ after')
    as_priced z priced =
        let wrote = derive_out made z in
        let d' = wrote.made in
        let from = derived_from s p t d' wrote.is in
        let reads = ap question_of wrote.front ∙ named_reads s d'.question from.asked from.none d'.names from.good from.few in
        let x = price b (take d.length out) (length lent) in
        let shown-x = shows (unplaced x) (same_result b s p t (length lent) d' (take d.length out) wrote.is reads) in
        (shown-x.0 ∙ shown_same x ∙ ap without_place (sym priced.answer), shown-x.1 ∙ lent_same x lent ∙ sym priced.output)

  -- A number other than 0 is 1; or 2, 14, 15 or 16 of the call that derives, with its place; or 3 to 7. Beside number and place stand zeros, and every byte of the output
  -- is as it was.
  pub refused_whole : (r.number ≡ 0 → ⊥) → Refused r.number r.place × (r ≡ refused_by r.number r.place) × (after ≡ lent)
  unfolding shown_derived
  refused_whole h = go (price_derived b s p t (length lent)) refl (result_refused b s p t (length lent))
    where
      go : (x : ResultAt Answer) → price_derived b s p t (length lent) ≡ x → RefusedIn x → Refused r.number r.place × (r ≡ refused_by r.number r.place) × (after ≡ lent)
      go (Done a) e f = absurd (h (ap (λ (y : DerivedAnswer). y.number) (shows (Done a) e).0))
      go (RefusedAt n at) e f =
          let z = refused_so n at e in (
            subst (λ (y : DerivedAnswer). Refused y.number y.place) (sym z.0) f,
            z.0 ∙ ap (λ (y : DerivedAnswer). refused_by y.number y.place) (sym z.0),
            z.1,
          )

  -- Two results that the contract allows are equal, and so are the bytes they leave.
  pub only_price_derived : {r' : DerivedAnswer} {after' : List ℕ} → DerivedIs b s p t lent r' after' → (r ≡ r') × (after ≡ after')
  only_price_derived is' = (is.answer ∙ sym is'.answer, is.output ∙ sym is'.output)
