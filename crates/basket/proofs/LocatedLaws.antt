-- What is found for the questions: for one by a survey, for more by one walk for all of them.
use Prim.Native.Nat.{ℕ, ◌≤◌, ◌<◌}
use mathlib.Core.Path.{◌≡◌, sym, ◌∙◌, ap, subst}
use mathlib.Core.Bool.{Bool, true, false, false≢true}
use mathlib.Core.List.{List}
use mathlib.Core.Option.{some}
use native.Mathlib.Omega.{arith}
use lib.ListN.{length, take, get_or}
use lib.Seq.{get_or-take, length-take-le}
use Rattle.rules.specs.Lists.{is_some}
use Rattle.rules.specs.Question.{Question, question_of}
use Rattle.rules.specs.BookLayout.{records}
use Rattle.layout.specs.Reads.{part}
use Rattle.questions.specs.declared.Lent.{Lent}
use Rattle.questions.specs.declared.Name.{Name}
use Rattle.questions.specs.Questions.{nowhere, no_name, name_at, NameIs, NamesAre}
use Rattle.survey.specs.declared.Found.{Found}
use Rattle.survey.specs.Survey.{FoundIs, BookFound, NoBook}
use Rattle.wanted.specs.declared.Sights.{Sights}
use Rattle.wanted.specs.Entries.{found_for, FoundAll}
use Rattle.basket.specs.Located.{HasEach, FirstFound}

module _ {s : List ℕ} {ls : List Lent} {names : List Name} (are : NamesAre s ls names) where
  abbrev cut : List Name
  cut = take (length ls) names

  its_name : (j : ℕ) → j < length ls → NameIs s (get_or ls j nowhere) (get_or cut j no_name)
  its_name j h = rw (get_or-take (length ls) names j no_name h) (are.each j h)

  -- what is found for the name of a question is found for the question
  for_question : (b : List ℕ) (j : ℕ) → j < length ls → {f : Found} → FoundIs b (name_at s cut j) (get_or cut j no_name).sort f
      → (q : Question) → question_of (part s (get_or ls j nowhere).start (get_or ls j nowhere).end) ≡ some q → FoundIs b q.article q.sort f
  for_question b j h {f} found q e =
      subst (λ (k : ℕ). FoundIs b q.article k f) ((its_name j h).sort q e)
      (subst (λ (a : List ℕ). FoundIs b a (get_or cut j no_name).sort f) ((its_name j h).article q e) found)

  pub located_one : length ls ≡ 1 → {b : List ℕ} {w : Found} → BookFound b (name_at s cut 0) (get_or cut 0 no_name).sort w
      → {found : Sights} → FirstFound w found → HasEach b s ls found
  located_one one {b} {w} told {found} first = record {
    book = told.book;
    has = λ j h.
        let zero : j ≡ 0 = omega arith in
        let here : found_for found j ≡ w = ap (found_for found) zero ∙ first.is in
        let its : FoundIs b (name_at s cut j) (get_or cut j no_name).sort w =
        subst (λ (k : ℕ). FoundIs b (name_at s cut k) (get_or cut k no_name).sort w) (sym zero) told.found in
        λ q e. subst (λ (f : Found). FoundIs b q.article q.sort f) (sym here) (for_question b j h its q e);
  }

  pub located_all : length ls ≤ 500 → {b : List ℕ} {t : Bool} → t ≡ is_some (records b) → t ≡ true → {found : Sights} → FoundAll b s cut found → HasEach b s ls found
  located_all few {b} e f told = record { book = sym e ∙ f; has = λ j h. for_question b j h (told.each j (omega (arith, length-take-le (length ls) names (omega (arith, are.long))))) }

pub located_none : {b : List ℕ} {t : Bool} → t ≡ is_some (records b) → t ≡ false → NoBook b
located_none e f = record { is = sym e ∙ f }
