-- A day's outcome is what the price call answers for the question with that day; and its numbers fit into 12 bytes.
use Prim.Native.Nat.{ℕ}
use mathlib.Core.Path.{◌≡◌, refl}
use mathlib.Core.List.{List}
use mathlib.Core.Bool.{Bool, true, false}
use mathlib.Core.Option.{some}
use lib.Dec.{leb}
use lib.ListN.{length}
use Rattle.rules.specs.Days.{is_day}
use Rattle.rules.specs.Book.{Record, Article, article_of}
use Rattle.rules.specs.BookLayout.{records}
use Rattle.rules.specs.Question.{Question, question_of, on, date_at, redated}
use Rattle.rules.specs.Refusals.{Result, done, refused, ◌>>=◌ as then, refuse_unless, number_of}
use Rattle.rules.specs.Price.{Priced, Answer, priced, answer_of, written, answered, in_room, price, shown}
use Rattle.rules.specs.Calendar.{outcome_of, outcome}
use Rattle.price.specs.Read.{outcome_in}
pub use Rattle.quote.proofs.FitLaws.{outcome_fits}
use Rattle.question.proofs.RedateLaws.{redated_reads}

module _ (b s : List ℕ) {book : List Record} {q : Question} {a : Article} (e : records b ≡ some book) (f : question_of s ≡ some q) (g : article_of book q.article ≡ some a) (room : ℕ) where
  -- The price call on the question with another day in its bytes, where it is not refused for its room, answers with the outcome of that day.
  pub call_outcome : (d : ℕ) → is_day d ≡ true → (number_of (price b (redated (date_at q) d s) room) ≡ 7 → ⊥) → outcome_in (shown (price b (redated (date_at q) d s) room)) ≡ outcome book q d
  unfolding price answered shown outcome outcome_of answer_of on
  call_outcome d day n = rw (e, redated_reads s q f d day, g) (go (priced book (on q d)) (rw (e, redated_reads s q f d day, g) at n))
    where
      fitting : Priced → Bool → Result Answer
      fitting p t = then (refuse_unless 7 t) (λ _. done (answer_of (on q d) p))

      seven : (p : Priced) (t : Bool) → (number_of (fitting p t) ≡ 7 → ⊥) → outcome_in (shown (fitting p t)) ≡ outcome_of (done p)
      seven p true n = refl
      seven p false n = absurd (n refl)

      go : (x : Result Priced) → (number_of (then (then x (λ p. done (answer_of (on q d) p))) (in_room room)) ≡ 7 → ⊥)
          → outcome_in (shown (then (then x (λ p. done (answer_of (on q d) p))) (in_room room))) ≡ outcome_of x
      go (refused n) h = refl
      go (done p) h = seven p (leb (length (written (answer_of (on q d) p))) room) h
