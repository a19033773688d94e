-- The walk over questions end to end: those gone by stand where it was noted, and those that are left are the rest of the definition's.
use Prim.Native.Nat.{ℕ, suc, ◌+◌, ◌-◌, ◌≤◌, ◌<◌}
use mathlib.Core.Path.{◌≡◌, refl, sym, ◌∙◌, ap, subst}
use mathlib.Core.Bool.{Bool, true, false, false≢true}
use mathlib.Core.List.{List, [], ◌∷◌}
use mathlib.Core.Option.{Option, some, none, none-ne-some, some-injective}
use native.Mathlib.Omega.{arith}
use native.Mathlib.Decide.{dec_lt}
use lib.Dec.{leb}
use lib.ListN.{length, drop, get_or, set, replicate, length-set, length-replicate, length-drop, drop_of_length-le}
use lib.Seq.{get_or-set_same, get_or-set_other, get_or-drop, drop-drop, drop-cons}
use borrow.Author.Tests.{le-leb, lt-leb}
use Rattle.rules.specs.Lists.{is_some}
use Rattle.rules.specs.Layout.{and_then, give, give_if, whole, wholly, to_end, repeated}
use Rattle.rules.specs.Question.{Question, question_of}
use Rattle.rules.specs.Questions.{one_question, questions_of}
use Rattle.rules.proofs.ListLaws.{present}
use Rattle.layout.specs.Reads.{part, only}
use Rattle.layout.proofs.FromLaws.{more, from_end, from_broken, from_step}
use Rattle.questions.specs.declared.Lent.{Lent}
use Rattle.questions.specs.declared.Questions.{Questions}
use Rattle.questions.specs.Questions.{QuestionAt, NoneAt, EndsAt, questions_from, no_question, nowhere, StandAt, NoQuestions, QuestionsRead}
use Rattle.questions.proofs.EndLaws.{end_reads, shrinks}

-- ---- the definition's list

-- at most so many
abbrev few : ℕ → Option (List Question) → Option (List Question)
few most none = none
few most (some qs) = only (leb (length qs) most) qs

questions_few : (most : ℕ) (s : List ℕ) → questions_of most s ≡ few most (questions_from s 0)
unfolding questions_of questions_from
questions_few most s = go (repeated one_question s)
  where
    end : (b : Bool) (qs : List Question) → wholly (give_if b qs []) ≡ only b qs
    end true qs = refl
    end false qs = refl

    more_left : (b : Bool) (qs : List Question) (c : ℕ) (t : List ℕ) → wholly (give_if b qs (c ∷ t)) ≡ none
    more_left true qs c t = refl
    more_left false qs c t = refl

    go : (o : Option (List Question × List ℕ)) → wholly (and_then o (λ qs. give_if (leb (length qs) most) qs)) ≡ few most (wholly o)
    go none = refl
    go (some (qs, [])) = end (leb (length qs) most) qs
    go (some (qs, c ∷ t)) = more_left (leb (length qs) most) qs c t

-- what is accepted are all questions, and not too many
few_some : (most : ℕ) (o : Option (List Question)) (qs : List Question) → few most o ≡ some qs → (o ≡ some qs) × (length qs ≤ most)
few_some most none qs e = absurd (none-ne-some qs e)
few_some most (some rs) qs e = go (dec_lt most (length rs)) e
  where
    go : Dec (most < length rs) → only (leb (length rs) most) rs ≡ some qs → (some rs ≡ some qs) × (length qs ≤ most)
    go (yes l) e = absurd (none-ne-some qs (sym (ap (λ (b : Bool). only b rs) (lt-leb (length rs) most l)) ∙ e))
    go (no l) e =
        let is : rs ≡ qs = some-injective rs qs (sym (ap (λ (b : Bool). only b rs) (le-leb (length rs) most (omega arith))) ∙ e) in
        (ap some is, subst (λ (k : List Question). length k ≤ most) is (omega arith))

some_more : (q : Question) (o : Option (List Question)) → is_some (more q o) ≡ is_some o
some_more q none = refl
some_more q (some qs) = refl

-- bytes that are left are not no question
some_left : (s : List ℕ) (at : ℕ) → at < length s → questions_from s at ≡ some [] → ⊥
unfolding questions_from
some_left s at h e = first (one_question (get_or s at 0 ∷ drop (suc at) s)) (ap (whole (repeated one_question)) (sym (drop-cons s at 0 h)) ∙ e)
  where
    last : (a : Question) (o : Option (List Question × List ℕ)) → wholly (and_then o (λ rest. give (a ∷ rest))) ≡ some [] → ⊥
    last a none e = none-ne-some [] e
    last a (some (rest, [])) e = let z : suc (length rest) ≡ 0 = ap length (some-injective (a ∷ rest) [] e) in omega arith
    last a (some (rest, c ∷ t)) e = none-ne-some [] e

    first : (o : Option (Question × List ℕ))
        → wholly (and_then o λ a t. and_then (to_end (length (drop (suc at) s)) one_question t) λ rest. give (a ∷ rest)) ≡ some [] → ⊥
    first none e = none-ne-some [] e
    first (some (a, t)) e = last a (to_end (length (drop (suc at) s)) one_question t) e

-- the same place, written otherwise
moved : {s : List ℕ} {q : Question} {l m : Lent} → l ≡ m → QuestionAt s l q → QuestionAt s m q
moved {s} {q} e h = subst (λ (x : Lent). QuestionAt s x q) e h

-- ---- the walk

-- of these questions the first n have gone by
pub record Gone (s : List ℕ) (ls : List Lent) (n at : ℕ) (qs : List Question) : Type 0 where
  pub rest : questions_from s at ≡ some (drop n qs)
  pub many : n ≤ length qs
  pub each : StandAt s ls n qs

pub record Reading (s : List ℕ) (most : ℕ) (ls : List Lent) (n at : ℕ) : Type 0 where
  pub fits : at ≤ length s
  pub room : most ≤ 500
  pub few : n ≤ most
  pub long : length ls ≡ 500
  pub same : is_some (questions_from s 0) ≡ is_some (questions_from s at)
  pub gone : (qs : List Question) → questions_from s 0 ≡ some qs → Gone s ls n at qs

module _ (s : List ℕ) (most : ℕ) where
  module _ {ls : List Lent} {n at : ℕ} (inv : Reading s most ls n at) where
    none_if : ((qs : List Question) → questions_from s 0 ≡ some qs → length qs ≤ most → ⊥) → NoQuestions s most
    none_if h = record { is = go (questions_of most s) refl }
      where
        go : (o : Option (List Question)) → questions_of most s ≡ o → questions_of most s ≡ none
        go none e = e
        go (some qs) e = let x = few_some most (questions_from s 0) qs (sym (questions_few most s) ∙ e) in absurd (h qs x.0 x.1)

    pub reading_end : length s ≤ at → QuestionsRead s most (record { count = n; stretches = ls })
    unfolding questions_from
    reading_end h = record {
      ok = ap is_some (questions_few most s ∙ ap (few most) all.1 ∙ ap (λ (b : Bool). only b all.0) not_many);
      few = inv.few;
      long = inv.long;
      count = λ qs e. as_many qs (is qs e);
      each = λ qs e. (inv.gone qs (is qs e)).each;
    }
      where
        none_left : questions_from s at ≡ some []
        none_left = from_end one_question s at h

        all : (qs : List Question) × (questions_from s 0 ≡ some qs)
        all = present (questions_from s 0) (inv.same ∙ ap is_some none_left)

        is : (qs : List Question) → questions_of most s ≡ some qs → questions_from s 0 ≡ some qs
        is qs e = (few_some most (questions_from s 0) qs (sym (questions_few most s) ∙ e)).0

        as_many : (qs : List Question) → questions_from s 0 ≡ some qs → n ≡ length qs
        as_many qs e =
            let g = inv.gone qs e in
            let z : [] ≡ drop n qs = some-injective [] (drop n qs) (sym none_left ∙ g.rest) in
            omega (arith, ap length z, length-drop n qs, g.many)

        not_many : leb (length all.0) most ≡ true
        not_many = le-leb (length all.0) most (omega (arith, as_many all.0 all.1, inv.few))

    module _ (h : at < length s) where
      -- another one, where there may be none
      pub reading_many : most ≤ n → NoQuestions s most
      reading_many l = none_if λ qs e k.
          let g = inv.gone qs e in
          let z : drop n qs ≡ [] = drop_of_length-le qs {i = n} (omega (arith, g.many)) in
          some_left s at h (g.rest ∙ ap some z)

      pub reading_broken : NoneAt s at → NoQuestions s most
      unfolding questions_from
      reading_broken e = none_if λ qs f k.
          none-ne-some (drop n qs)
          (sym (from_broken one_question s at shrinks {a = no_question} {next = at} h (record { is = e.none })) ∙ (inv.gone qs f).rest)

      module _ {end : ℕ} (e : EndsAt s at end) where
        abbrev here : Lent
        here = record { start = at; end = end }

        -- the question here, and those behind it
        q : (q : Question) × (question_of (part s at end) ≡ some q)
        q = present (question_of (part s at end)) e.here.ok

        step : questions_from s at ≡ more q.0 (questions_from s end)
        unfolding questions_from
        step = from_step one_question s at shrinks (end_reads e q.1)

        pub reading_again : n < most → Reading s most (set ls n (record { start = at; end = end })) (n + 1) end
        reading_again l = record {
          fits = e.here.fits;
          room = inv.room;
          few = omega arith;
          long = length-set ls n here ∙ inv.long;
          same = inv.same ∙ ap is_some step ∙ some_more q.0 (questions_from s end);
          gone = λ qs f. let x = inv.gone qs f in go qs x (questions_from s end) refl (sym x.rest ∙ step);
        }
          where
            go : (qs : List Question) → Gone s ls n at qs → (o : Option (List Question)) → questions_from s end ≡ o
                → some (drop n qs) ≡ more q.0 (questions_from s end) → Gone s (set ls n here) (n + 1) end qs
            go qs x none f i = absurd (none-ne-some (drop n qs) (sym (i ∙ ap (more q.0) f)))
            go qs x (some rs) f i =
                let are : drop n qs ≡ q.0 ∷ rs = some-injective (drop n qs) (q.0 ∷ rs) (i ∙ ap (more q.0) f) in
                let longer : n + 1 ≤ length qs = omega (arith, ap length are, length-drop n qs) in
                record {
                  rest = f ∙ ap some (ap (drop 1) (sym are) ∙ drop-drop 1 n qs);
                  many = longer;
                  each = λ j k. each j k (dec_lt j n);
                }
              where
                is_here : get_or qs n no_question ≡ q.0
                is_here =
                    let z : n ≡ n + 0 = omega arith in
                    ap (λ (k : ℕ). get_or qs k no_question) z
                    ∙ sym (get_or-drop n qs 0 no_question)
                    ∙ ap (λ (l : List Question). get_or l 0 no_question) (some-injective (drop n qs) (q.0 ∷ rs) (i ∙ ap (more q.0) f))

                each : (j : ℕ) → j < n + 1 → Dec (j < n)
                    → QuestionAt s (get_or (set ls n here) j nowhere) (get_or qs j no_question)
                each j k (yes m) =
                    let other : j ≡ n → ⊥ = λ e. omega arith in
                    moved (sym (get_or-set_other ls n j here nowhere other)) (x.each j m)
                each j k (no m) =
                    let j_is : n ≡ j = omega arith in
                    let in_ls : n < length ls = omega (arith, inv.long, inv.room) in
                    let its : QuestionAt s here (get_or qs n no_question) =
                    record { low = e.here.low; fits = e.here.fits; is = q.1 ∙ ap some (sym is_here) } in
                    subst (λ (y : ℕ). QuestionAt s (get_or (set ls n here) y nowhere) (get_or qs y no_question)) j_is
                    (moved (sym (get_or-set_same ls n here nowhere in_ls)) its)
