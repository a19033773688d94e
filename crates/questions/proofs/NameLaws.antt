-- Where a question among many names its article: a part of the question is a part of all bytes.
use Prim.Native.Nat.{ℕ, ◌+◌, ◌-◌, ◌≤◌, ◌<◌}
use mathlib.Core.Path.{◌≡◌, sym, ◌∙◌, ap, subst}
use mathlib.Core.List.{List}
use mathlib.Core.Option.{some, some-injective}
use native.Mathlib.Omega.{arith}
use lib.ListN.{length, take, drop, get_or, set, length-set}
use lib.Seq.{get_or-set_same, get_or-set_other, get_or-take}
use borrow.Author.Count.{below_more}
use Rattle.rules.specs.Question.{Question, question_of}
use Rattle.layout.specs.Reads.{part}
use Rattle.layout.proofs.PartLaws.{part_within, part_length}
use Rattle.question.specs.declared.Ask.{Ask}
use Rattle.question.specs.Asked.{ask_in, AskIs}
use Rattle.questions.specs.declared.Lent.{Lent}
use Rattle.questions.specs.declared.Name.{Name}
use Rattle.questions.specs.Questions.{QuestionHere, QuestionsHere, nowhere, no_name, NameIs, NamesAre, Listed}

module _ {s : List ℕ} {l : Lent} (here : QuestionHere s l) where
  abbrev from : ℕ
  from = l.start

  abbrev to : ℕ
  to = l.end

  long : length (part s from to) ≡ to - from
  long = part_length s from to here.fits

  module _ {ask : Ask} (a : AskIs (take (to - from) (drop from s)) ask) where
    pub name_inside : from + ask.article.at + ask.article.size ≤ to
    name_inside = omega (arith, long, a.inside, here.low)

    pub name_is : NameIs s l (record { start = from + ask.article.at; end = from + ask.article.at + ask.article.size; sort = ask.sort })
    name_is =
        let same : (q : Question) → question_of (part s from to) ≡ some q → ask_in (part s from to) ask ≡ q =
        λ q e. some-injective (ask_in (part s from to) ask) q (sym a.is ∙ e) in
        record {
          order = omega arith;
          inside = omega (arith, name_inside, here.fits);
          article = λ q e.
              sym (part_within s from to ask.article.at ask.article.size (omega (arith, long, a.inside)))
              ∙ ap (λ (x : Question). x.article) (same q e);
          sort = λ q e. ap (λ (x : Question). x.sort) (same q e);
        }

-- ---- of each of many

-- of those before j
pub record Naming (s : List ℕ) (ls : List Lent) (names : List Name) (j : ℕ) : Type 0 where
  pub long : length names ≡ 500
  pub done : (i : ℕ) → i < j → NameIs s (get_or ls i nowhere) (get_or names i no_name)

-- ---- for the crates above

-- the names are a list of names in the bytes
pub names_listed : {s : List ℕ} {ls : List Lent} {r : List Name} → length ls ≤ 500 → NamesAre s ls r → {n : ℕ} → n ≡ length ls → Listed s (take n r) n
names_listed {s} {ls} {r} few are {n} e = record {
  few = omega (arith, e);
  order = λ j h. rw (get_or-take n r j no_name h) (are.each j (omega (arith, e))).order;
  inside = λ j h. rw (get_or-take n r j no_name h) (are.each j (omega (arith, e))).inside;
}
