-- A question, field by field: which bytes are one, and what stands in an accepted one.
use Prim.Native.Nat.{ℕ, ◌+◌, ◌-◌, ◌≤◌, ◌<◌}
use mathlib.Core.Path.{◌≡◌, refl, sym, ◌∙◌, ap}
use mathlib.Core.Bool.{Bool, true, false, ◌&&◌, and-true, and-false, and_assoc}
use mathlib.Core.List.{List, [], ◌∷◌}
use mathlib.Core.Option.{none}
use native.Mathlib.Omega.{arith}
use native.Mathlib.Decide.{dec_lt}
use lib.Dec.{eqb, ltb}
use lib.ListN.{length, drop, get_or}
use borrow.Author.Tests.{lt-ltb, le-ltb, ne_eqb}
use Rattle.rules.specs.Lists.{between, is_some}
use Rattle.rules.specs.Layout.{bytes, wholly}
use Rattle.rules.specs.Bytes.{number, head_of}
use Rattle.rules.specs.Days.{is_day}
use Rattle.rules.specs.Book.{sale, purchase}
use Rattle.rules.specs.Question.{property, granted_in, versions, question_layout, question_of}
use Rattle.layout.specs.Reads.{Reads}
use Rattle.layout.specs.Ensures.{Says, question_head_ok, NameEnd}
use Rattle.layout.proofs.FromLaws.{no_question_head, question_head_reads}
use Rattle.layout.proofs.LayoutLaws.{then_reads, then_broken, such_reads, reads_as, give_reads, number_reads, bytes_reads, one_of_at, sized_such, sized_bytes, sized_number, sized_one_of}
use Rattle.layout.proofs.ReadingLaws.{then_none, wants_any, wants_then, wanted, whole_at}
use Rattle.layout.proofs.CountedLaws.{counted_reads, ends_reads}
use Rattle.properties.specs.Properties.{PropertiesEnd}
use Rattle.properties.proofs.PropertyLaws.{properties_any}
use Rattle.question.specs.Parts.{currency_ok, terms_ok, version_of, question_at, GrantedEnd}

not_one : (s : List ℕ) → question_layout (length s) (drop 0 s) ≡ none → false ≡ is_some (question_of s)
unfolding question_of
not_one s e = sym (ap (λ o. is_some (wholly o)) e)

pub question_short : (s : List ℕ) → length s < 5 → false ≡ is_some (question_of s)
question_short s h = not_one s (then_broken _ _ (question_head_reads s) (no_question_head s h).is)

module _ (s : List ℕ) (h : 5 ≤ length s) where
  here : Reads (head_of versions (length s)) s 0 (question_head_ok s) (get_or s 4 0) 5
  here = question_head_reads s

  module _ {a : ℕ} (p : NameEnd 1 40 s 5 a) where
    pub question_nameless : a < 1 → false ≡ is_some (question_of s)
    question_nameless g = not_one s (then_none _ _ here (then_broken _ _ p.reads (le-ltb 0 a (omega arith))))

    pub question_cut : length s - a < 12 → false ≡ is_some (question_of s)
    question_cut g = not_one s (then_none _ _ here (then_none _ _ p.reads (wanted _ (
        wants_then _ _ (sized_one_of (sale ∷ purchase ∷ [])) λ sort. wants_then _ _ (sized_such (bytes 3) currency_ok (sized_bytes 3)) λ currency.
        wants_then _ _ (sized_such (number 4) is_day (sized_number 4)) λ date. wants_then _ _ (sized_such (number 4) (between 1 100000) (sized_number 4)) λ quantity. wants_any) s a g)))

    module _ (l : 12 ≤ length s - a) {g : ℕ} (q : GrantedEnd (version_of s) s (a + 12) g)
        {end : ℕ} (r : PropertiesEnd s g end) where
      pub question_reads : Reads (question_layout (length s)) s 0 (question_head_ok s && (ltb 0 a && (terms_ok s a && (ltb 0 g && ltb 0 end)))) (question_at s a g) end
      question_reads = reads_as (
          then_reads _ _ here (then_reads _ _ p.reads (then_reads _ _ (one_of_at s a (sale ∷ purchase ∷ []) (omega arith))
          (then_reads _ _ (such_reads (bytes 3) currency_ok (bytes_reads s a 3 1 (omega arith)))
          (then_reads _ _ (such_reads (number 4) is_day (number_reads s a 4 4 (omega arith)))
          (then_reads _ _ (such_reads (number 4) (between 1 100000) (number_reads s a 4 8 (omega arith)))
          (counted_reads (granted_in (get_or s 4 0)) _ (ends_reads q) λ n. counted_reads property _ (ends_reads r) λ n. give_reads)))))))
          (simp (and_assoc, and-true)) refl

      pub question_some : is_some (question_of s) ≡ (question_head_ok s && (ltb 0 a && (terms_ok s a && (ltb 0 g && eqb end (length s)))))
      unfolding question_of
      question_some = whole_at (question_layout (length s)) question_reads r.fits ∙ simp (and_assoc, at_end_lem (dec_lt 0 end))
        where
          at_end_lem : Dec (0 < end) → (ltb 0 end && eqb end (length s)) ≡ eqb end (length s)
          at_end_lem (yes e) = rw (lt-ltb 0 end e)
          at_end_lem (no e) = rw (ne_eqb end (length s) (λ i. omega arith)) (and-false (ltb 0 end))

      pub question_is : {t u : Bool} → 1 ≤ a → 1 ≤ g → Says (question_head_ok s) t → Says (terms_ok s a) u → (t && u && eqb end (length s)) ≡ is_some (question_of s)
      question_is {t} {u} i j e f = sym (question_some ∙ rw (e.is, f.is, lt-ltb 0 a i, lt-ltb 0 g j) (sym (and_assoc t u (eqb end (length s)))))

      pub question_endless : end ≡ 0 → false ≡ is_some (question_of s)
      question_endless e = sym (question_some ∙ rw (ne_eqb end (length s) (λ i. omega arith)) (simp and-false))

    module _ (l : 12 ≤ length s - a) {g : ℕ} (q : GrantedEnd (version_of s) s (a + 12) g) where
      pub question_ungranted : g < 1 → false ≡ is_some (question_of s)
      question_ungranted i =
          let x = properties_any s g q.fits in
          sym (question_some l q x.1 ∙ rw (le-ltb 0 g (omega arith)) (none_of (question_head_ok s) (ltb 0 a) (terms_ok s a)))
        where
          none_of : (b c d : Bool) → (b && (c && (d && false))) ≡ false
          none_of true true true = refl
          none_of true true false = refl
          none_of true false d = refl
          none_of false c d = refl
