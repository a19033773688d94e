-- A question of the basket: where it stands, what the book has for it, and what is answered to it.
use Prim.Native.Nat.{ℕ, ◌*◌, ◌≤◌, ◌<◌}
use mathlib.Core.Path.{◌≡◌, sym, ◌∙◌, ap, subst}
use mathlib.Core.List.{List, map}
use mathlib.Core.Option.{some-injective}
use native.Mathlib.Omega.{arith}
use lib.ListN.{length, get_or, length-append, length-map, get_or-map}
use Rattle.rules.specs.Lists.{is_some}
use Rattle.rules.specs.Question.{Question}
use Rattle.rules.specs.Refusals.{Result}
use Rattle.rules.specs.Price.{Answer, answered}
use Rattle.rules.specs.Basket.{answer_size, basket_bytes}
use Rattle.rules.proofs.CurrencyLaws.{rows_in_letters}
use Rattle.rules.proofs.BasketLaws.{basket_size}
use Rattle.layout.specs.Records.{records_left}
use Rattle.questions.specs.declared.Lent.{Lent}
use Rattle.questions.specs.Questions.{no_question, nowhere}
use Rattle.survey.specs.declared.Found.{Found}
use Rattle.survey.specs.Survey.{FoundIs}
use Rattle.wanted.specs.declared.Sights.{Sights}
use Rattle.wanted.specs.Entries.{found_for}
use Rattle.price.specs.Answered.{Ready, answered_to}
use Rattle.basket.specs.Basket.{asked, Basketed, question_at, outcomes, all_answers, all_lines}

module _ {b s : List ℕ} {ls : List Lent} {found : Sights} (bk : Basketed b s ls found) where
  pub outcomes_count : length (outcomes b s) ≡ length ls
  outcomes_count = length-map (asked s) (answered (records_left b 5)) ∙ bk.count

  -- 33 bytes for each answer
  pub answers_size : length (all_answers b s) ≡ answer_size * length ls
  unfolding basket_bytes
  answers_size =
      let whole = basket_size (records_left b 5) (rows_in_letters b (records_left b 5) bk.is_book) (asked s) in
      omega (arith, whole, length-append (all_answers b s) (all_lines b s), bk.count)

  module _ (j : ℕ) (h : j < length ls) where
    pub ready_at : {f : Found} → f ≡ found_for found j → Ready b (question_at s ls j) f
    ready_at {f} of =
        let is = (bk.stand j h).is in
        record {
          ok = ap is_some is;
          has = λ q e.
              subst (λ (x : Question). FoundIs b x.article x.sort f) (some-injective _ q (sym is ∙ e))
              (subst (λ (g : Found). FoundIs b (get_or (asked s) j no_question).article (get_or (asked s) j no_question).sort g) (sym of) (bk.has j h));
        }

    -- what the question there is answered, among what all are
    as_one : answered_to (records_left b 5) (question_at s ls j) ≡ answered (records_left b 5) (get_or (asked s) j no_question)
    unfolding answered_to
    as_one = rw (bk.stand j h).is

    pub nth : (f : Result Answer → List ℕ)
        → get_or (map f (outcomes b s)) j (f (answered (records_left b 5) no_question)) ≡ f (answered_to (records_left b 5) (question_at s ls j))
    nth f =
        get_or-map f (outcomes b s) j (answered (records_left b 5) no_question)
        ∙ ap f (get_or-map (answered (records_left b 5)) (asked s) j no_question ∙ sym as_one)
