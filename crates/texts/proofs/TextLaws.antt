-- The text call: which answer two looks make, and where the text that is found stands.
use Prim.Native.Nat.{ℕ, ◌+◌, ◌≤◌}
use mathlib.Core.Path.{◌≡◌, refl, sym, ◌∙◌, ap, transport}
use mathlib.Core.List.{List}
use mathlib.Core.Option.{Option as Maybe, some, none}
use Rattle.std.specs.Prelude.{Option, Some, None, Ok, Err}
use mathlib.Core.Logic.{◌⊎◌, inl, inr}
use native.Mathlib.Omega.{arith}
use lib.Dec.{eqb}
use lib.ListN.{length}
use denote.Ref.{Bor}
use Rattle.rules.specs.TextBook.{Entry, entries}
use Rattle.rules.specs.Refusals.{Result, done, refused, ◌>>=◌, or_refuse}
use Rattle.rules.specs.Text.{Found, InAsked, InFallback, entry_of, either, text, part, shown}
use Rattle.rules.specs.declared.TextAnswer.{TextAnswer}
use Rattle.rules.proofs.ListLaws.{Holds, first_holds}
use Rattle.rules.specs.declared.Part.{Part}
use Rattle.rules.specs.declared.Refusal.{Refusal}
use Rattle.rules.specs.Reasons.{number_for}
use Rattle.texts.specs.Ensures.{found_at, lender, IsPart, Handed}
use Rattle.texts.specs.Looks.{Looked, seen, looked, Looks}
use Rattle.texts.proofs.StandLaws.{Stands, StandsIn, all_stand}

-- ---- the answer of two looks

pub refusal_is : (n : ℕ) → record { place = 0; length = 0; number = n; book = 0 } ≡ shown (refused n)
unfolding shown
refusal_is n = refl

answer_of : Looked → Looked → TextAnswer
answer_of (Err e) there = shown (refused (number_for e))
answer_of (Ok o) (Err e) = shown (refused (number_for e))
answer_of (Ok None) (Ok None) = shown (refused 12)
answer_of (Ok None) (Ok (Some p)) = found_at 2 p.at p.size
answer_of (Ok (Some p)) (Ok q) = found_at 1 p.at p.size

-- the call, by the texts of its two books
abbrev pub call_of : ℕ → Maybe (List Entry) → Maybe (List Entry) → Result Found
call_of n o p = do
  here ← or_refuse 1 o
  there ← or_refuse 1 p
  or_refuse 12 (either (entry_of n here) (entry_of n there))

answer_is : (s t : List ℕ) (n : ℕ) → answer_of (looked n (entries s)) (looked n (entries t)) ≡ shown (text s t n)
unfolding text shown looked answer_of
answer_is s t n = go (entries s) (entries t)
  where
    two : (x y : Maybe Entry) → answer_of (Ok (seen x)) (Ok (seen y)) ≡ shown (or_refuse 12 (either x y))
    two none none = refl
    two none (some e) = refl
    two (some e) none = refl
    two (some e) (some f) = refl

    go : (o p : Maybe (List Entry)) → answer_of (looked n o) (looked n p) ≡ shown (call_of n o p)
    go none p = refl
    go (some es) none = refl
    go (some es) (some fs) = two (entry_of n es) (entry_of n fs)

module _ (s t : List ℕ) (n : ℕ) {here there : Looked} (p : Looks (looked n (entries s)) here) (q : Looks (looked n (entries t)) there) where
  both : (h k : Looked) → here ≡ h → there ≡ k → answer_of h k ≡ shown (text s t n)
  both h k e f = (λ i. answer_of (sym (p.is ∙ e) i) (sym (q.is ∙ f) i)) ∙ answer_is s t n

  pub asked_broken : {e : Refusal} {r : TextAnswer} → here ≡ Err e → r ≡ shown (refused (number_for e)) → r ≡ shown (text s t n)
  unfolding answer_of
  asked_broken {e} h i = i ∙ both (Err e) there h refl

  pub other_broken : {o : Option Part} {e : Refusal} {r : TextAnswer} → here ≡ Ok o → there ≡ Err e → r ≡ shown (refused (number_for e)) → r ≡ shown (text s t n)
  unfolding answer_of
  other_broken {o} {e} h k i = i ∙ both (Ok o) (Err e) h k

  pub in_neither : {r : TextAnswer} → here ≡ Ok None → there ≡ Ok None → r ≡ shown (refused 12) → r ≡ shown (text s t n)
  unfolding answer_of
  in_neither h k i = i ∙ both (Ok None) (Ok None) h k

  pub in_fallback : {p : Part} {r : TextAnswer} → here ≡ Ok None → there ≡ Ok (Some p) → r ≡ found_at 2 p.at p.size → r ≡ shown (text s t n)
  unfolding answer_of
  in_fallback {p} h k i = i ∙ both (Ok None) (Ok (Some p)) h k

  pub in_asked_lem : {p : Part} {q : Option Part} {r : TextAnswer} → here ≡ Ok (Some p) → there ≡ Ok q → r ≡ found_at 1 p.at p.size → r ≡ shown (text s t n)
  unfolding answer_of
  in_asked_lem {p} {q} h k i = i ∙ both (Ok (Some p)) (Ok q) h k

-- ---- what is handed out stands in its book

-- whatever the call says: what it hands out is the bytes at that place of the book that lends it
unfoldable pub Holding : List ℕ → List ℕ → Result Found → Type 0
Holding s t x = Stands (lender s t x) (shown x).place (shown x).length (part x)

pub text_stands : (s t : List ℕ) (n : ℕ) → Holding s t (text s t n)
unfolding text shown part Holding
text_stands s t n = go (entries s) (entries t) refl refl
  where
    two : (x y : Maybe Entry) → Holds (StandsIn s) x → Holds (StandsIn t) y → Holding s t (or_refuse 12 (either x y))
    two none none h k = record { is = refl; fits = omega arith }
    two none (some e) h k = k
    two (some e) y h k = h

    go : (o p : Maybe (List Entry)) → entries s ≡ o → entries t ≡ p → Holding s t (call_of n o p)
    go none p e f = record { is = refl; fits = omega arith }
    go (some es) none e f = record { is = refl; fits = omega arith }
    go (some es) (some fs) e f =
        two (entry_of n es) (entry_of n fs) (first_holds (StandsIn s) (λ x. eqb x.number n) es (all_stand s es e))
        (first_holds (StandsIn t) (λ x. eqb x.number n) fs (all_stand t fs f))

-- it is refused by two numbers alone
abbrev pub OneOfTwo : Result Found → Type 0
OneOfTwo (done f) = Unit {0}
OneOfTwo (refused k) = (k ≡ 1) ⊎ (k ≡ 12)

pub text_refused : (s t : List ℕ) (n : ℕ) → OneOfTwo (text s t n)
unfolding text
text_refused s t n = go (entries s) (entries t)
  where
    two : (o : Maybe Found) → OneOfTwo (or_refuse 12 o)
    two none = inr refl
    two (some f) = tt

    go : (o p : Maybe (List Entry)) → OneOfTwo (call_of n o p)
    go none p = inl refl
    go (some es) none = inl refl
    go (some es) (some fs) = two (either (entry_of n es) (entry_of n fs))

-- ---- which book lends it, by the answer's book

module _ {A : Type 0} (asked fallback : A) (x : Result Found) {a : TextAnswer} (e : a ≡ shown x) where
  pub lends_fallback : a.book ≡ 2 → lender asked fallback x ≡ fallback
  unfolding shown
  lends_fallback h = go x (ap (λ y. y.book) (sym e) ∙ h)
    where
      go : (x : Result Found) → (shown x).book ≡ 2 → lender asked fallback x ≡ fallback
      go (done (InAsked f)) h = absurd (omega arith)
      go (done (InFallback f)) h = refl
      go (refused n) h = absurd (omega arith)

  pub lends_asked : (a.book ≡ 2 → ⊥) → lender asked fallback x ≡ asked
  unfolding shown
  lends_asked h = go x (λ k. h (ap (λ y. y.book) e ∙ k))
    where
      go : (x : Result Found) → ((shown x).book ≡ 2 → ⊥) → lender asked fallback x ≡ asked
      go (done (InAsked f)) h = refl
      go (done (InFallback f)) h = absurd (h refl)
      go (refused n) h = refl

module _ (s t : List ℕ) (n : ℕ) {a : TextAnswer} (e : a ≡ shown (text s t n)) where
  answer_stands : (book : List ℕ) → lender s t (text s t n) ≡ book → Stands book a.place a.length (part (text s t n))
  unfolding Holding
  answer_stands book l = transport (λ i. Stands (l i) (sym e i).place (sym e i).length (part (text s t n))) (text_stands s t n)

  pub fallback_stands : a.book ≡ 2 → Stands t a.place a.length (part (text s t n))
  fallback_stands h = answer_stands t (lends_fallback s t (text s t n) e h)

  pub asked_stands : (a.book ≡ 2 → ⊥) → Stands s a.place a.length (part (text s t n))
  asked_stands h = answer_stands s (lends_asked s t (text s t n) e h)

  pub fallback_fits : a.book ≡ 2 → a.place + a.length ≤ length t
  fallback_fits h = (fallback_stands h).fits

  pub asked_fits : (a.book ≡ 2 → ⊥) → a.place + a.length ≤ length s
  asked_fits h = (asked_stands h).fits

module _ (asked fallback : Bor (List ℕ)) (n : ℕ) {a : TextAnswer} (e : a ≡ shown (text asked.now fallback.now n)) {r : Bor (List ℕ)} where
  handed : (b : Bor (List ℕ)) → lender asked fallback (text asked.now fallback.now n) ≡ b → Stands b.now a.place a.length (part (text asked.now fallback.now n)) → IsPart b a.place a.length r
      → Handed asked fallback n r
  handed b l h p = record { contents = p.contents ∙ h.is; lies = transport (λ i. IsPart (sym l i) (e i).place (e i).length r) p }

  pub handed_fallback : a.book ≡ 2 → IsPart fallback a.place a.length r → Handed asked fallback n r
  handed_fallback h = handed fallback (lends_fallback asked fallback (text asked.now fallback.now n) e h) (fallback_stands asked.now fallback.now n e h)

  pub handed_asked : (a.book ≡ 2 → ⊥) → IsPart asked a.place a.length r → Handed asked fallback n r
  handed_asked h = handed asked (lends_asked asked fallback (text asked.now fallback.now n) e h) (asked_stands asked.now fallback.now n e h)
