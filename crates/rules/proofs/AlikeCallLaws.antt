-- The calls on two books that are alike in what a question reads: the same price and the same calendar, refusals too.
use Prim.Native.Nat.{ℕ}
use mathlib.Core.Path.{◌≡◌, refl, sym, ap}
use mathlib.Core.Bool.{false≢true}
use mathlib.Core.List.{List}
use mathlib.Core.Option.{Option, some, none}
use lib.ListN.{length}
use Rattle.rules.specs.Lists.{is_some}
use Rattle.rules.specs.Book.{Record, article_of}
use Rattle.rules.specs.BookLayout.{records}
use Rattle.rules.specs.Question.{Question, question_of}
use Rattle.rules.specs.Refusals.{Result, done, ◌>>=◌, or_refuse}
use Rattle.rules.specs.Price.{Priced, Answer, answer_of, answered, in_room, price}
use Rattle.rules.specs.Calendar.{outcome, Stretch, stretches, period_to, within, listing, finished, calendar_in}
use Rattle.rules.proofs.AlikeLaws.{Alike, same_priced, same_outcome}

-- Two accepted books that are alike in what the question reads, and both have a record of its article, or neither has.
pub record BooksAlike (one two question : List ℕ) : Type 0 where
  pub first_book : List Record
  pub second_book : List Record
  pub is_first : records one ≡ some first_book
  pub is_second : records two ≡ some second_book
  pub known : (q : Question) → question_of question ≡ some q → is_some (article_of first_book q.article) ≡ is_some (article_of second_book q.article)
  pub alike : (q : Question) → question_of question ≡ some q → Alike first_book second_book q.article q.sort

-- a refusal by what is found, where what is found is not used
found_same : {A B : Type 0} (n : ℕ) (o p : Option A) (x y : Result B) → is_some o ≡ is_some p → x ≡ y
    → (or_refuse n o >>= λ _. x) ≡ (or_refuse n p >>= λ _. y)
found_same n none none x y e f = refl
found_same n none (some a) x y e f = absurd (false≢true e)
found_same n (some a) none x y e f = absurd (false≢true (sym e))
found_same n (some a) (some c) x y e f = f

-- a question is read of both
asked_same : {B : Type 0} (o : Option Question) (x y : Question → Result B) → ((q : Question) → o ≡ some q → x q ≡ y q)
    → (or_refuse 2 o >>= x) ≡ (or_refuse 2 o >>= y)
asked_same none x y h = refl
asked_same (some q) x y h = h q refl

module _ (one two question : List ℕ) (h : BooksAlike one two question) where
  same_answered : (q : Question) → question_of question ≡ some q → answered h.first_book q ≡ answered h.second_book q
  unfolding answered
  same_answered q e =
      found_same 3 (article_of h.first_book q.article) (article_of h.second_book q.article) _ _ (h.known q e)
      (ap (λ (r : Result Priced). r >>= λ p. done (answer_of q p)) (same_priced h.first_book h.second_book q (h.alike q e)))

  -- The price call gives the same answer or the same refusal.
  pub same_price : (room : ℕ) → price one question room ≡ price two question room
  unfolding price
  same_price room = rw (h.is_first, h.is_second) (asked_same (question_of question) _ _ λ q e. ap (λ (r : Result Answer). r >>= in_room room) (same_answered q e))

  -- The calendar lists the same stretches or has the same refusal, in either form.
  same_listing : (end : ℕ) → listing one question end ≡ listing two question end
  unfolding listing within
  same_listing end = rw (h.is_first, h.is_second) (asked_same (question_of question) _ _ λ q e. days q e (period_to q.date end))
    where
      days : (q : Question) → question_of question ≡ some q → (o : Option (List ℕ))
          → (or_refuse 9 o >>= λ ds. or_refuse 3 (article_of h.first_book q.article) >>= λ _. done (stretches (outcome h.first_book q) ds))
          ≡ (or_refuse 9 o >>= λ ds. or_refuse 3 (article_of h.second_book q.article) >>= λ _. done (stretches (outcome h.second_book q) ds))
      days q e none = refl
      days q e (some ds) =
          found_same 3 (article_of h.first_book q.article) (article_of h.second_book q.article) _ _ (h.known q e)
          (λ i. done (stretches (λ d. same_outcome h.first_book h.second_book q (h.alike q e) d i) ds))

  pub same_calendar : {B : Type 0} (form : List Stretch → List B) (end room : ℕ)
      → calendar_in form one question end room ≡ calendar_in form two question end room
  unfolding calendar_in
  same_calendar form end room = ap (finished (λ ss. length (form ss)) room) (same_listing end)
