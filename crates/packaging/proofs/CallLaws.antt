-- The records at the spots are those that the definition uses; and the whole call, refusal by refusal.
use Prim.Native.Nat.{ℕ}
use mathlib.Core.Path.{◌≡◌, refl, sym, ◌∙◌, ap, subst}
use mathlib.Core.Bool.{Bool, true, false, ◌&&◌, false≢true}
use mathlib.Core.List.{List, [], ◌∷◌}
use mathlib.Core.Option.{Option, some, none}
use Rattle.std.specs.Prelude as Std
use Rattle.std.specs.Prelude.{Option as Maybe, Some, None, Ok, Err}
use native.Mathlib.Omega.{arith}
use lib.Dec.{eqb}
use lib.ListN.{length, get_or}
use Rattle.rules.specs.Lists.{same, first, pick, gather, cons_some, is_some}
use Rattle.rules.specs.Book.{Record, Article, Pack, packagings, article_of, pack_of}
use Rattle.rules.specs.BookLayout.{records, star}
use Rattle.rules.specs.Question.{Granted, Question, Grant, grants, question_of}
use Rattle.rules.specs.Refusals.{Result, ◌>>=◌, refused, or_refuse}
use Rattle.rules.specs.Packaging.{or_else, pack_for, used, Packed, packaging, shown}
use Rattle.rules.specs.declared.PackagingAnswer.{PackagingAnswer}
use Rattle.rules.specs.declared.Part.{Part}
use Rattle.rules.specs.declared.Refusal.{Refusal}
use Rattle.rules.specs.declared.Refusal.TheVariants.{BrokenBook, BrokenQuestion}
use Rattle.rules.proofs.ListLaws.{absent}
use Rattle.rules.proofs.TestLaws.{and_false}
use Rattle.layout.specs.Records.{records_left, Between}
use Rattle.book.proofs.WalkLaws.{book_left, pass_start}
use Rattle.question.specs.declared.Ask.{Ask}
use Rattle.question.specs.Asked.{ask_in, AskIs}
use Rattle.question.specs.Parts.{names_at}
use Rattle.grants.specs.Table.{GrantsAre}
use Rattle.grants.specs.Places.{place_of, up_from}
use Rattle.grants.proofs.FillLaws.{names_count}
use Rattle.grants.proofs.GatherLaws.{gather_same, none_is, places_gathered}
use Rattle.packaging.specs.declared.spots.Found.{Found}
use Rattle.packaging.specs.Spots.{first_at, pack_there, AllHeld, FoundHeld, Keeps, FoundIn, FoundIs, Known, Unknown, used_from, used_in}
use Rattle.packed.specs.Answer.{summed, written}
use Rattle.packaging.specs.Sums.{from_spots, AnswersFrom}
use Rattle.packaging.proofs.SumLaws.{there_is, held_is}

-- ---- the record of a place is that of a condition

module _ {A : Type 0} where
  first_same : (p q : A → Bool) → ((x : A) → p x ≡ q x) → (xs : List A) → first p xs ≡ first q xs
  first_same p q h [] = refl
  first_same p q h (x ∷ xs) = λ i. pick (h x i) x (first_same p q h xs i)

  first_none : (xs : List A) → first (λ x. false) xs ≡ none
  first_none [] = refl
  first_none (x ∷ xs) = first_none xs

module _ (names : List Granted) (article : List ℕ) (rs : List Record) (i : ℕ) where
  first_named : (name : List ℕ) → ((c : List ℕ) → eqb (place_of names c) i ≡ same c name) → first_at names article rs i ≡ pack_of rs article name
  unfolding first_at pack_of
  first_named name h = first_same _ _ (λ p. ap (λ (b : Bool). same p.article article && b) (h p.condition)) (packagings rs)

  first_nowhere : ((c : List ℕ) → eqb (place_of names c) i ≡ false) → first_at names article rs i ≡ none
  unfolding first_at
  first_nowhere h = first_same _ (λ p. false) (λ p. ap (λ (b : Bool). same p.article article && b) (h p.condition) ∙ and_false (same p.article article)) (packagings rs) ∙ first_none (packagings rs)

-- ---- the records used

keeps_held : {b : List ℕ} {ps : List (Maybe Part)} {f : ℕ → Option Pack} → Keeps b ps f → AllHeld b ps
keeps_held {b} {ps} k = record { each = λ i l. held_is (get_or ps i None) (k.each i l) }

module _ (q : Question) {table : List ℕ} (ok : GrantsAre q.granted table) (rs : List Record) where
  abbrev first_of : List ℕ → ℕ → Option Pack
  first_of article = first_at q.granted article rs

  -- the own one of a place, or else that of any article
  abbrev first_for : ℕ → Option Pack
  first_for i = or_else (first_of q.article i) (first_of star i)

  module _ {b : List ℕ} {own any : List (Maybe Part)} (k : Keeps b own (first_of q.article)) (l : Keeps b any (first_of star)) where
    abbrev there_for : ℕ → Option Pack
    there_for i = or_else (pack_there b (get_or own i None)) (pack_there b (get_or any i None))

    -- without a condition
    unconditioned : pack_there b (get_or own 0 None) ≡ pack_of rs q.article []
    unconditioned = there_is (k.each 0 (omega arith)) ∙ first_named q.granted q.article rs 0 [] (none_is ok)

    used_is : (p : Pack) → pack_of rs q.article [] ≡ some p → used_in b own any ≡ used rs q p
    unfolding used_from used
    used_is p e =
        gather_same there_for first_for 0 33 (λ i a h. λ j. or_else (there_is (k.each i h) j) (there_is (l.each i h) j))
        ∙ (λ j. cons_some (or_else ((first_named q.granted q.article rs 0 [] (none_is ok) ∙ e) j) (first_of star 0)) (rest j))
      where
        named : (article : List ℕ) (g : Grant) → ((c : List ℕ) → eqb (place_of q.granted c) g.place ≡ same c g.name)
            → first_of article g.place ≡ pack_of rs article g.name
        named article g h = first_named q.granted article rs g.place g.name h

        empty : (article : List ℕ) (i : ℕ) → ((c : List ℕ) → eqb (place_of q.granted c) i ≡ false) → first_of article i ≡ none
        empty article i h = first_nowhere q.granted article rs i h

        rest : gather first_for (up_from 1 32) ≡ gather (pack_for rs q.article) (grants q.granted)
        rest =
            places_gathered ok first_for (pack_for rs q.article)
            (λ g h _. λ j. or_else (named q.article g h j) (named star g h j))
            (λ i h. λ j. or_else (empty q.article i h j) (empty star i h j))

    -- what the definition does once the article is there
    spots_are : from_spots b own any ≡ (or_refuse 8 (pack_of rs q.article []) >>= λ p. summed (used rs q p))
    unfolding from_spots
    spots_are = go (pack_of rs q.article []) refl
      where
        go : (o : Option Pack) → pack_of rs q.article [] ≡ o
            → (or_refuse 8 (pack_there b (get_or own 0 None)) >>= λ _. summed (used_in b own any)) ≡ (or_refuse 8 o >>= λ p. summed (used rs q p))
        go none e = ap (λ (o : Option Pack). or_refuse 8 o >>= λ _. summed (used_in b own any)) (unconditioned ∙ e)
        go (some p) e = ap (λ (o : Option Pack). or_refuse 8 o >>= λ _. summed (used_in b own any)) (unconditioned ∙ e) ∙ ap summed (used_is p e)

-- ---- the call

module _ {A B : Type 0} (n : ℕ) (o : Option A) (f : A → Result B) where
  refuses : is_some o ≡ false → (or_refuse n o >>= f) ≡ refused n
  refuses e = rw (absent o e)

  goes_on : {a : A} → o ≡ some a → (or_refuse n o >>= f) ≡ f a
  goes_on e = rw e

-- what is done with an accepted question
abbrev pub with_question : List Record → Question → Result Packed
with_question book q = or_refuse 3 (article_of book q.article) >>= λ _. or_refuse 8 (pack_of book q.article []) >>= λ p. summed (used book q p)

abbrev pub with_book : List ℕ → List Record → Result Packed
with_book s book = or_refuse 2 (question_of s) >>= with_question book

pub opened : (b s : List ℕ) → packaging b s ≡ (or_refuse 1 (records b) >>= with_book s)
unfolding packaging summed
opened b s = refl

pub book_starts : {b : List ℕ} → is_some (records b) ≡ true → Between b 5
book_starts {b} ok = pass_start b ok

-- the walk's spots hold packagings
pub found_held : {b article table : List ℕ} {n : ℕ} {found : Found} → FoundIs b article table n (Ok found) → {names : List Granted} → GrantsAre names table
    → length names ≡ n → FoundHeld b found
found_held (Known is) {names} g c = record { own = keeps_held (is.own names g c); any = keeps_held (is.any names g c) }

module _ (b s : List ℕ) where
  pub call_1 : {t : Bool} → t ≡ is_some (records b) → t ≡ false → written (Err BrokenBook) ≡ shown (packaging b s)
  call_1 e f = ap shown (sym (opened b s ∙ refuses 1 (records b) (with_book s) (sym e ∙ f)))

  module _ (ok : is_some (records b) ≡ true) where
    pub call_2 : {t : Bool} → t ≡ is_some (question_of s) → t ≡ false → written (Err BrokenQuestion) ≡ shown (packaging b s)
    call_2 e f = ap shown (sym (opened b s ∙ goes_on 1 (records b) (with_book s) (book_left b ok) ∙ refuses 2 (question_of s) (with_question (records_left b 5)) (sym e ∙ f)))

    module _ {ask : Ask} (a : AskIs s ask) {table : List ℕ} (g : GrantsAre (names_at ask.version s ask.granted ask.conditions) table)
        {article : List ℕ} (of : article ≡ (ask_in s ask).article) where
      asked : packaging b s ≡ with_question (records_left b 5) (ask_in s ask)
      asked = opened b s ∙ goes_on 1 (records b) (with_book s) (book_left b ok) ∙ goes_on 2 (question_of s) (with_question (records_left b 5)) a.is

      pub call_3 : {e : Refusal} → FoundIs b article table ask.conditions (Err e) → written (Err e) ≡ shown (packaging b s)
      call_3 {e} is = go e is
        where
          go : (e : Refusal) → FoundIs b article table ask.conditions (Err e) → written (Err e) ≡ shown (packaging b s)
          go e (Unknown n) = ap shown (sym (asked ∙ refuses 3 (article_of (records_left b 5) (ask_in s ask).article) _ (ap (λ (x : List ℕ). is_some (article_of (records_left b 5) x)) (sym of) ∙ n)))

      count : length (names_at ask.version s ask.granted ask.conditions) ≡ ask.conditions
      count = names_count ask.version s ask.granted ask.conditions

      pub call_on : {found : Found} → FoundIs b article table ask.conditions (Ok found) → {r : Std.Result PackagingAnswer Refusal} → AnswersFrom b found.own found.any r
          → written r ≡ shown (packaging b s)
      call_on {found} (Known f) from =
          let is : FoundIn b (ask_in s ask).article table ask.conditions found = subst (λ (x : List ℕ). FoundIn b x table ask.conditions found) of f in
          let own = is.own (names_at ask.version s ask.granted ask.conditions) g count in
          let any = is.any (names_at ask.version s ask.granted ask.conditions) g count in
          let article = article_of (records_left b 5) (ask_in s ask).article in
          from.is
          ∙ ap shown (spots_are (ask_in s ask) g (records_left b 5) own any ∙ sym (asked ∙ goes_on 3 article _ (there article is.known).1))
        where
          there : (o : Option Article) → is_some o ≡ true → (x : Article) × (o ≡ some x)
          there none e = absurd (false≢true e)
          there (some x) e = (x, refl)
