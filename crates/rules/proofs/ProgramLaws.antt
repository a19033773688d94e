-- What the program prints where its input is too long, or ends too soon.
use Prim.Native.Nat.{ℕ, ◌*◌, ◌≤◌, ◌<◌}
use mathlib.Core.Path.{◌≡◌, refl, sym, ◌∙◌, ap}
use mathlib.Core.Logic.{◌⊎◌, inl, inr}
use mathlib.Core.Bool.{Bool, true, false}
use mathlib.Core.List.{List, [], ◌∷◌}
use mathlib.Core.Option.{some, none}
use native.Mathlib.Omega.{arith}
use lib.Dec.{leb}
use lib.ListN.{length, length-take}
use lib.Seq.{take_all}
use borrow.Author.Tests.{ne_eqb, le-leb, lt-leb}
use Rattle.rules.specs.Letters.{text}
use Rattle.rules.specs.Layout.{Layout, ◌>>=◌ as next, must, wholly, repeated}
use Rattle.rules.specs.Bytes.{head_of, head, own_length}
use Rattle.rules.specs.Days.{is_day}
use Rattle.rules.specs.Book.{Record}
use Rattle.rules.specs.BookLayout.{one_record, most_bytes, records}
use Rattle.rules.specs.Question.{Question, versions, question_body, question_of}
use Rattle.rules.specs.Refusals.{refused, ◌>>=◌, refuse_unless}
use Rattle.rules.specs.Calendar.{within, listing, finished, calendar_in, calendar, most_days}
use Rattle.rules.specs.Program.{digits, printed, most_input, front, book_in, question_in, end_in, end_of, asked, output}
use Rattle.rules.proofs.PeriodLaws.{no_period}

-- a part that is cut: its length is, or it is shorter than that says
abbrev pub Cut : List ℕ → Type 0
Cut s = (length s < 4) ⊎ (length s < own_length s)

-- ---- a book or a question says its own length

-- too short for a length, or not as long as that says: no layout that begins with a head
no_head : {A : Type 0} (versions : List ℕ) (lent : ℕ) (f : ℕ → Layout A) (t : List ℕ) → (length t < 4) ⊎ (lent ≡ own_length t → ⊥) → next (head_of versions lent) f t ≡ none
no_head versions lent f [] h = refl
no_head versions lent f (a ∷ []) h = refl
no_head versions lent f (a ∷ b ∷ []) h = refl
no_head versions lent f (a ∷ b ∷ c ∷ []) h = refl
no_head versions lent f (a ∷ b ∷ c ∷ d ∷ t) (inl l) = absurd (omega arith)
no_head versions lent f (a ∷ b ∷ c ∷ d ∷ t) (inr n) = rw (ne_eqb lent (own_length (a ∷ b ∷ c ∷ d ∷ [])) n)

cut_front : (s : List ℕ) → Cut s → (length (front s) < 4) ⊎ (length (front s) ≡ own_length (front s) → ⊥)
cut_front s (inl l) = inl (simp length-take (omega arith))
cut_front s (inr l) =
    let e : front s ≡ s = take_all (own_length s) s (omega arith) in
    inr (λ h. let k : length s ≡ own_length s = (λ i. length (sym e i)) ∙ (h ∙ (λ i. own_length (e i))) in omega arith)

pub cut_book : (s : List ℕ) → Cut s → records (front s) ≡ none
unfolding records
cut_book s h = go (leb (length (front s)) most_bytes)
  where
    go : (b : Bool) → wholly (next (must b) (λ _. next (head (length (front s))) (λ _. repeated one_record)) (front s)) ≡ none
    go true = ap wholly (no_head (1 ∷ []) (length (front s)) (λ _. repeated one_record) (front s) (cut_front s h))
    go false = refl

pub cut_question : (s : List ℕ) → Cut s → question_of (front s) ≡ none
unfolding question_of
cut_question s h = ap wholly (no_head versions (length (front s)) question_body (front s) (cut_front s h))

-- ---- what is printed

refusal_text : (printed (refused 1) ≡ text "refusal 1\n") × (printed (refused 2) ≡ text "refusal 2\n") × (printed (refused 9) ≡ text "refusal 9\n")
unfolding digits
refusal_text = (refl, refl, refl)

module _ (input : List ℕ) where
  pub prints_too_long : most_input < length input → output input ≡ text "refusal 1\n"
  unfolding output asked
  prints_too_long h = rw (lt-leb (length input) most_input h) refusal_text.0

  -- bytes that are no book, in input of any length
  pub prints_no_book : records (book_in input) ≡ none → output input ≡ text "refusal 1\n"
  unfolding output asked calendar_in finished listing within
  prints_no_book e = go (leb (length input) most_input)
    where
      go : (b : Bool) → printed (refuse_unless 1 b >>= λ _. calendar (book_in input) (question_in input) (end_of (end_in input)) (20 * most_days)) ≡ text "refusal 1\n"
      go true = rw e refusal_text.0
      go false = refusal_text.0

  module _ (h : length input ≤ most_input) {book : List Record} (e : records (book_in input) ≡ some book) where
    pub prints_no_question : question_of (question_in input) ≡ none → output input ≡ text "refusal 2\n"
    unfolding output asked calendar_in finished listing within
    prints_no_question f = rw (le-leb (length input) most_input h, e, f) refusal_text.1

    pub prints_no_end : {q : Question} → question_of (question_in input) ≡ some q → (length (end_in input) ≡ 4 → ⊥) → output input ≡ text "refusal 9\n"
    unfolding output asked calendar_in finished listing within is_day
    prints_no_end {q} f n = rw (le-leb (length input) most_input h, e, f, ne_eqb (length (end_in input)) 4 n, no_period q.date 0 (inl refl)) refusal_text.2
