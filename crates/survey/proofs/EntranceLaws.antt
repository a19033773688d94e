-- The entrance of a call: its number for each pair of bytes, and what a call is that begins with refusals 1 and 2.
use Prim.Native.Nat.{ℕ, ◌+◌, ◌-◌}
use mathlib.Core.Path.{◌≡◌, refl, sym, ◌∙◌, ap, subst}
use mathlib.Core.Bool.{Bool, true, false, not}
use mathlib.Core.List.{List}
use mathlib.Core.Option.{Option, some, none}
use native.Mathlib.Omega.{arith}
use lib.ListN.{take, drop}
use Rattle.rules.specs.Lists.{is_some}
use Rattle.rules.specs.Reasons.{number_for}
use Rattle.rules.specs.declared.Refusal.{Refusal}
use Rattle.rules.specs.declared.Refusal.TheVariants.{BrokenBook, BrokenQuestion, NoArticle, NoBaseLine, MixedCurrencies, TotalOutOfRange, ShortOutput, NoPackaging, BadPeriod, UnfitPackaging, NoText, BadRow, BadRelation, DeepRelation, UnfitName}
use Rattle.rules.specs.Book.{Record}
use Rattle.rules.specs.BookLayout.{records}
use Rattle.rules.specs.Question.{Question, question_of}
use Rattle.rules.specs.Refusals.{Result, refused, ◌>>=◌, or_refuse}
use Rattle.rules.proofs.ListLaws.{absent}
use Rattle.rules.proofs.TestLaws.{so, not_so}
use Rattle.layout.proofs.LayoutLaws.{part_is}
use Rattle.layout.specs.Records.{records_left}
use Rattle.book.proofs.WalkLaws.{book_left}
use Rattle.question.specs.declared.Ask.{Ask}
use Rattle.question.specs.Asked.{ask_in, AskIs}
use Rattle.survey.specs.declared.Found.{Found}
use Rattle.survey.specs.declared.entrance.Entered.{Entered}
use Rattle.survey.specs.Survey.{FoundIs, BookFound, NoBook}
use Rattle.survey.specs.Entrance.{entry, Entering, KeptOut}

-- ---- the number

module _ (b s : List ℕ) where
  enters_none : is_some (records b) ≡ false → KeptOut b s BrokenBook
  unfolding entry
  enters_none e = record { number_is = rw (absent (records b) e) }

  pub is_question : {y : Bool} → y ≡ is_some (question_of s) → not y ≡ false → is_some (question_of s) ≡ true
  is_question {y} e f = sym e ∙ so y f

  module _ {ask : Ask} (a : AskIs s ask) where
    abbrev named : List ℕ
    named = take (ask.article.at + ask.article.size - ask.article.at) (drop ask.article.at s)

    pub enters_both : {f : Found} → BookFound b named ask.sort f → Entering b s (record { ask = ask; found = f })
    unfolding entry
    enters_both {f} told = record {
      number_is = rw (book_left b told.book, a.is);
      ask_is = a;
      found_is = subst (λ (number : List ℕ). FoundIs b number ask.sort f) (part_is s ask.article.at ask.article.size) told.found;
    }

  pub enters_no_book : NoBook b → KeptOut b s BrokenBook
  enters_no_book n = enters_none n.is

  module _ {y : Bool} (asks : y ≡ is_some (question_of s)) (no : not y ≡ true) {x : Bool} (is : x ≡ is_some (records b)) where
    pub enters_no_question : x ≡ true → KeptOut b s BrokenQuestion
    unfolding entry
    enters_no_question t = record { number_is = rw (book_left b (sym is ∙ t), absent (question_of s) (sym asks ∙ not_so y no)) }

    pub enters_neither : x ≡ false → KeptOut b s BrokenBook
    enters_neither f = enters_none (sym is ∙ f)

-- no refusal has the number 0
pub has_number : (x : Refusal) → number_for x ≡ 0 → ⊥
has_number BrokenBook e = omega arith
has_number BrokenQuestion e = omega arith
has_number NoArticle e = omega arith
has_number NoBaseLine e = omega arith
has_number MixedCurrencies e = omega arith
has_number TotalOutOfRange e = omega arith
has_number ShortOutput e = omega arith
has_number NoPackaging e = omega arith
has_number BadPeriod e = omega arith
has_number UnfitPackaging e = omega arith
has_number NoText e = omega arith
has_number BadRow e = omega arith
has_number BadRelation e = omega arith
has_number DeepRelation e = omega arith
has_number UnfitName e = omega arith

-- ---- a call that begins with refusals 1 and 2

module _ {A : Type 0} (call : List Record → Question → Result A) where
  abbrev pub behind_entrance : Option (List Record) → Option Question → Result A
  behind_entrance book question = or_refuse 1 book >>= λ rs. or_refuse 2 question >>= λ q. call rs q

  module _ {b s : List ℕ} where
    -- it refuses with the number of the entrance
    pub stays_out : {x : Refusal} → KeptOut b s x → behind_entrance (records b) (question_of s) ≡ refused (number_for x)
    unfolding entry
    stays_out {x} k = go (records b) (question_of s) k.number_is
      where
        go : (o : Option (List Record)) (p : Option Question) → entry o p ≡ number_for x → behind_entrance o p ≡ refused (number_for x)
        go none p i = ap refused i
        go (some rs) none i = ap refused i
        go (some rs) (some q) i = absurd (has_number x (sym i))

    -- and goes on with the records of the book and the question that was read
    pub goes_in : {r : Entered} → Entering b s r → behind_entrance (records b) (question_of s) ≡ call (records_left b 5) (ask_in s r.ask)
    unfolding entry
    goes_in e = rw (book_left b (go (records b) (question_of s) e.number_is), e.ask_is.is)
      where
        go : (o : Option (List Record)) (p : Option Question) → entry o p ≡ 0 → is_some o ≡ true
        go none p i = absurd (omega (arith, i))
        go (some rs) p i = refl
