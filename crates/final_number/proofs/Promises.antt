-- What a caller of the final number can rely on, whatever the bytes: said of any answer and any lent bytes that the contract allows.
use Prim.Native.Nat.{ℕ, ◌+◌, ◌≤◌}
use mathlib.Core.Path.{◌≡◌, sym, ◌∙◌, ap}
use mathlib.Core.List.{List, ◌++◌, append_assoc}
use mathlib.Core.Option.{some, none}
use mathlib.Core.Logic.{◌⊎◌}
use native.Mathlib.Omega.{arith}
use lib.ListN.{length, take, drop, take-append-drop}
use lib.Seq.{take-append_seam}
use Rattle.rules.specs.Lists.{if_some}
use Rattle.rules.specs.Book.{Record, Article, Scheme, article_of, scheme_of}
use Rattle.rules.specs.BookLayout.{records}
use Rattle.rules.specs.Question.{Question, question_of}
use Rattle.rules.specs.FinalNumber.{number_by, final_number_of}
use Rattle.rules.specs.declared.Written.{Written}
use Rattle.final_number.specs.Ensures.{NumberCall}
use Rattle.final_number.proofs.AnswerLaws.{handed, numbered_as, refused_is}
use Rattle.final_number.proofs.LengthLaws.{behind_base, widths_shown, filled_long, question_fits}
use Rattle.final_number.proofs.NumberLaws.{base_first_lem}

module _ {b s old new : List ℕ} {r : Written} (call : NumberCall b s old new r) where
  -- There is one answer, and one way to leave the lent bytes: of two that the contract allows both are the same.
  pub one_answer : {new' : List ℕ} {r' : Written} → NumberCall b s old new' r' → (r ≡ r') × (new ≡ new')
  one_answer other = (call.answer ∙ sym other.answer, call.lent ∙ sym other.lent)

  -- A number other than 0 is 1, 2, 3 or 7; the length beside it is 0, and every lent byte is as it was.
  pub refused_with_zeros : (r.number ≡ 0 → ⊥)
      → ((r.number ≡ 1) ⊎ ((r.number ≡ 2) ⊎ ((r.number ≡ 3) ⊎ (r.number ≡ 7)))) × (r ≡ record { length = 0; number = r.number }) × (new ≡ old)
  refused_with_zeros n = let x = refused_is call n in (x.known, x.zeros, x.same)

  module _ (z : r.number ≡ 0) where
    -- With 0, what was written fits, and the bytes behind it are as they were.
    pub bytes_behind_stay : (r.length ≤ length old) × (drop r.length new ≡ drop r.length old)
    bytes_behind_stay = let x = handed call z in (omega (arith, x.long, x.is.fits), x.behind)

    -- What stands in front is the number of the rules, for the book, the question and the article that the bytes are.
    pub number_of_the_rules : (book : List Record) (q : Question) (a : Article) → records b ≡ some book → question_of s ≡ some q → article_of book q.article ≡ some a
        → (take r.length new ≡ final_number_of book q a) × (r.length ≡ length (final_number_of book q a))
    number_of_the_rules book q a e f g =
        let x = handed call z in
        let n = numbered_as x.is book q a e f g in
        (x.front ∙ n, x.long ∙ ap length n)

    module _ (book : List Record) (q : Question) (a : Article) (is_book : records b ≡ some book) (is_question : question_of s ≡ some q) (has : article_of book q.article ≡ some a) where
      -- It starts with the base number.
      pub starts_with_base : take (length q.article) new ≡ q.article
      starts_with_base =
          let x = base_first_lem book q a in
          let whole : new ≡ q.article ++ (x.0 ++ drop r.length new) =
          sym (take-append-drop r.length new)
          ∙ (ap (λ l. l ++ drop r.length new) ((number_of_the_rules book q a is_book is_question has).0 ∙ x.1) ∙ append_assoc q.article x.0 (drop r.length new)) in
          ap (take (length q.article)) whole ∙ take-append_seam q.article (x.0 ++ drop r.length new)

      -- Without a scheme the base number is all of it.
      pub base_alone : scheme_of book a.scheme ≡ none → take r.length new ≡ q.article
      unfolding final_number_of
      base_alone e = (number_of_the_rules book q a is_book is_question has).0 ∙ rw e

      -- By a scheme that trims nothing, as many bytes are written as the base number has, and, if a property is shown, as the number separator has,
      -- as the properties shown are wide together, and as the value separators between them have.
      pub filled_length : (x : Scheme) → scheme_of book a.scheme ≡ some x → x.trim ≡ 0 → r.length ≡ length q.article + behind_base x (widths_shown x q.properties)
      unfolding final_number_of
      filled_length x e f =
          (number_of_the_rules book q a is_book is_question has).1
          ∙ (ap (λ o. length (if_some o q.article (number_by q.article q.properties))) e ∙ filled_long x f q.article q.properties (question_fits s q is_question))
