-- The basket call, refusal by refusal in their order, and what is written.
use Prim.Native.Nat.{ℕ, ◌+◌, ◌*◌, ◌≤◌, ◌<◌}
use mathlib.Core.Path.{◌≡◌, refl, sym, ◌∙◌, ap, subst}
use mathlib.Core.Bool.{Bool, true, false, false≢true}
use mathlib.Core.List.{List, [], ◌++◌}
use mathlib.Core.Option.{Option, some, none}
use native.Mathlib.Omega.{arith}
use lib.Dec.{leb}
use lib.ListN.{length, take, get_or, length-append}
use lib.Seq.{take_at, get_or-take, length-take-le}
use borrow.Author.Tests.{le-leb, lt-leb}
use Rattle.rules.specs.Lists.{is_some, if_some}
use Rattle.rules.specs.BookLayout.{records}
use Rattle.rules.specs.Lines.{line_size}
use Rattle.rules.specs.Question.{Question}
use Rattle.rules.specs.Questions.{questions_of}
use Rattle.rules.specs.Refusals.{Result, done, refused, ◌>>=◌, refuse_unless, lent_after}
use Rattle.rules.specs.Price.{Answer}
use Rattle.rules.specs.Basket.{most_basket, basket_bytes, basket, shown_basket, lent_after_basket}
use Rattle.rules.specs.Reasons.{number_for}
use Rattle.rules.specs.declared.Refusal.{Refusal}
use Rattle.rules.specs.declared.Refusal.TheVariants.{BrokenBook, BrokenQuestion, ShortOutput}
use Rattle.rules.specs.declared.Written.{Written}
use Rattle.rules.proofs.ListLaws.{absent, present}
use Rattle.layout.specs.Ensures.{Puts, PutsTo}
use Rattle.layout.proofs.StoreLaws.{puts_then, puts_front}
use Rattle.book.proofs.WalkLaws.{book_left}
use Rattle.questions.specs.declared.Questions.{Questions}
use Rattle.questions.specs.declared.Lent.{Lent}
use Rattle.questions.specs.Questions.{QuestionAt, NoQuestions, QuestionsRead, QuestionsHere, StandAt, no_question, nowhere}
use Rattle.wanted.specs.declared.Sights.{Sights}
use Rattle.price.specs.Answered.{HasRoom}
use Rattle.basket.specs.declared.answers.Answers.{Answers}
use Rattle.basket.specs.Basket.{asked, Basketed, outcomes, all_answers, all_lines, AnswersAre, BasketIs, BasketRefused}
use Rattle.basket.specs.Located.{HasEach}

module _ (b s lent : List ℕ) where
  -- ---- refusals 1 and 2

  pub no_book : is_some (records b) ≡ false → BasketRefused b s lent BrokenBook lent
  unfolding basket
  no_book f = let none_there = absent (records b) f in record { is = rw none_there; same = refl }

  pub no_questions : {t : Bool} → t ≡ is_some (records b) → t ≡ true → NoQuestions s most_basket → BasketRefused b s lent BrokenQuestion lent
  unfolding basket
  no_questions e f n =
      let x = present (records b) (sym e ∙ f) in
      let none-asked = n.is in
      record { is = rw (x.1, none-asked); same = refl }

  pub refused_shown : {x : Refusal} {after : List ℕ} → BasketRefused b s lent x after → {r : Written} → r ≡ record { length = 0; number = number_for x } → BasketIs b s lent r after
  unfolding lent_after shown_basket
  refused_shown p e = record {
    answer = e ∙ ap shown_basket (sym p.is);
    output = p.same ∙ ap (λ (x : Result (List (Result Answer))). lent_after_basket x lent) (sym p.is);
  }

-- ---- a book and questions

are_asked : (s : List ℕ) → is_some (questions_of most_basket s) ≡ true → questions_of most_basket s ≡ some (asked s)
are_asked s e = go (questions_of most_basket s) e
  where
    go : (o : Option (List Question)) → is_some o ≡ true → o ≡ some (if_some o [] (λ qs. qs))
    go none n = absurd (false≢true n)
    go (some qs) n = refl

module _ {s : List ℕ} {list : Questions} (told : QuestionsRead s most_basket list) where
  abbrev ls : List Lent
  ls = take list.count list.stretches

  count : length ls ≡ list.count
  count = length-take-le list.count list.stretches (omega (arith, told.few, told.long))

  are : questions_of most_basket s ≡ some (asked s)
  are = are_asked s told.ok

  stand : StandAt s ls (length ls) (asked s)
  stand j h =
      subst (λ (l : Lent). QuestionAt s l (get_or (asked s) j no_question))
      (sym (get_or-take list.count list.stretches j nowhere (omega (arith, count))))
      (told.each (asked s) are j (omega (arith, count)))

  pub all_here : QuestionsHere s ls
  all_here = record {
    few = omega (arith, told.few, count);
    each = λ j h. let x = stand j h in record { low = x.low; fits = x.fits; ok = ap is_some x.is };
  }

  pub all_basketed : {b : List ℕ} {found : Sights} → HasEach b s ls found → Basketed b s ls found
  all_basketed {b} located = record {
    is_book = book_left b located.book;
    are = are;
    few = omega (arith, told.few, count);
    count = sym (told.count (asked s) are) ∙ sym count;
    stand = stand;
    has = λ j h. located.has j h (get_or (asked s) j no_question) (stand j h).is;
  }

module _ {b s : List ℕ} {ls : List Lent} {found : Sights} (bk : Basketed b s ls found) {kept : List ℕ} {a : Answers} (told : AnswersAre b s kept a) where
  -- the answers are those of length ls questions
  head_is : length (all_answers b s) ≡ 33 * length ls
  head_is = told.size ∙ ap (λ (k : ℕ). 33 * k) bk.count

  pub lines_most : a.lines ≤ 99 * 200
  lines_most = omega (arith, told.few, bk.count, bk.few)

  size_is : length (basket_bytes (outcomes b s)) ≡ 33 * length ls + line_size * a.lines
  unfolding basket_bytes
  size_is = omega (arith, length-append (all_answers b s) (all_lines b s), head_is, told.lines)

  -- the call from refusal 7 on
  by_room : (room : ℕ) → basket b s room ≡ (refuse_unless 7 (leb (length (basket_bytes (outcomes b s))) room) >>= λ _. done (outcomes b s))
  unfolding basket
  by_room room = rw (bk.is_book, bk.are)

  module _ (lent : List ℕ) where
    pub no_room : length lent < 33 * length ls + line_size * a.lines → BasketRefused b s lent ShortOutput lent
    no_room h =
        let e : leb (length (basket_bytes (outcomes b s))) (length lent) ≡ false = rw size_is (lt-leb (33 * length ls + line_size * a.lines) (length lent) h) in
        record { is = by_room (length lent) ∙ rw e refl; same = refl }

    module _ (h : 33 * length ls + line_size * a.lines ≤ length lent) where
      pub lines_fit : {mid : List ℕ} → length mid ≡ length lent → HasRoom mid (33 * length ls) (all_lines b s)
      lines_fit e = record { fits = omega (arith, told.lines) }

      front : take (33 * length ls) a.bytes ≡ all_answers b s
      front = ap (take (33 * length ls)) (puts_front told.bytes) ∙ take_at (all_answers b s) _ (33 * length ls) head_is

      pub all_written : {mid after : List ℕ} {e : ℕ} → PutsTo lent 0 (take (33 * length ls) a.bytes) mid e → Puts mid (33 * length ls) (all_lines b s) after
          → BasketIs b s lent (record { length = 33 * length ls + line_size * a.lines; number = 0 }) after
      unfolding shown_basket lent_after basket_bytes
      all_written {mid} {after} put lines =
          let fits : leb (length (basket_bytes (outcomes b s))) (length lent) ≡ true = rw size_is (le-leb (33 * length ls + line_size * a.lines) (length lent) h) in
          let is_done : basket b s (length lent) ≡ done (outcomes b s) = by_room (length lent) ∙ rw fits in
          let first : Puts lent 0 (all_answers b s) mid = subst (λ (x : List ℕ). Puts lent 0 x mid) front put.puts in
          let end : 0 + length (all_answers b s) ≡ 33 * length ls = omega (arith, head_is) in
          let both : Puts lent 0 (all_answers b s ++ all_lines b s) after = puts_then first end lines in
          record {
            answer = ap (λ (k : ℕ). record { length = k; number = 0 }) (sym size_is) ∙ ap shown_basket (sym is_done);
            output = puts_front both ∙ ap (λ (x : Result (List (Result Answer))). lent_after_basket x lent) (sym is_done);
          }
