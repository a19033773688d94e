-- Which two dates make a period, said by the days between them: refusal 9 is given exactly where they make none.
use Prim.Native.Nat.{ℕ, zero, suc, ◌+◌, ◌≤◌, ◌<◌}
use mathlib.Core.Path.{◌≡◌, refl, sym, ◌∙◌, ap, subst}
use mathlib.Core.Logic.{◌⊎◌, inl, inr}
use mathlib.Core.Bool.{Bool, true, false, cond, ◌&&◌, false≢true}
use mathlib.Core.List.{List, [], ◌∷◌}
use mathlib.Core.Option.{Option, some, none, none-ne-some, some-injective}
use native.Mathlib.Omega.{arith}
use native.Mathlib.Decide.{dec_lt}
use lib.Dec.{eqb, leb}
use lib.ListN.{length}
use borrow.Author.Tests.{eqb-true, eqb-false, eq-eqb, ne_eqb, leb-true, leb-false}
use Rattle.rules.specs.Days.{is_day, next, days_to, also}
use Rattle.rules.specs.Book.{Record, article_of}
use Rattle.rules.specs.BookLayout.{records}
use Rattle.rules.specs.Question.{Question, question_of}
use Rattle.rules.specs.Refusals.{Result, done, refused, ◌>>=◌, or_refuse, number_of}
use Rattle.rules.specs.Calendar.{Stretch, stretches, outcome, period_to, most_days, within, listing, finished, calendar_in}
use Rattle.rules.proofs.DayLaws.{next_above, next_least, next_is_day, day_most}
use Rattle.rules.proofs.RefusalLaws.{Refuses, or_refuses}
use Rattle.rules.proofs.CalendarLaws.{Days, end, day, days_order, period_days, period_end, period_count}
use Rattle.rules.proofs.CallLaws.{finished_refuses}

-- ---- no period

-- from one day to the other, both counted, there are more than 1,096 days
pub record TooLong (from to : ℕ) : Type 0 where
  pub days : List ℕ
  pub each : Days from to days
  pub many : 1096 < length days

-- the end is no day; it is before the start; or there are too many days
abbrev pub NoPeriod : ℕ → ℕ → Type 0
NoPeriod from to = (is_day to ≡ false) ⊎ ((to < from) ⊎ TooLong from to)

-- ---- the days from one to the other

-- the walk from day to day finds them, if it may be as long
days_found : (n : ℕ) {from to : ℕ} {ds : List ℕ} → Days from to ds → length ds ≤ n → days_to n from to ≡ some ds
unfolding days_to
days_found zero (end {d = d}) l = absurd (omega arith)
days_found (suc n) (end {d = d}) l = rw (eq-eqb d d refl, days_to)
days_found zero (day {d = d} h) l = absurd (omega arith)
days_found (suc n) (day {d = d} {to = to} {ds = ds} h) l =
    let other : d ≡ to → ⊥ = λ e. omega (arith, next_above d, days_order h) in
    rw (ne_eqb d to other, days_to) (ap (also d) (days_found n h (omega arith)))

-- there is one list of them
pub days_one : {from to : ℕ} {ds es : List ℕ} → Days from to ds → Days from to es → ds ≡ es
days_one {ds = ds} {es = es} h k =
    some-injective ds es (sym (days_found (length ds + length es) h (omega arith)) ∙ days_found (length ds + length es) k (omega arith))

days_from : (n from to : ℕ) → is_day from ≡ true → is_day to ≡ true → from ≤ to → to ≤ from + n → (ds : List ℕ) × Days from to ds
days_from zero from to e f l k = let i : from ≡ to = omega arith in (from ∷ [], subst (λ (t : ℕ). Days from t (from ∷ [])) i end)
days_from (suc n) from to e f l k = go (λ g h. days_from n (next from) to g f h (omega (arith, next_above from))) (eqb from to) refl
  where
    go : (is_day (next from) ≡ true → next from ≤ to → (ds : List ℕ) × Days (next from) to ds) → (b : Bool) → eqb from to ≡ b → (ds : List ℕ) × Days from to ds
    go ih true i = (from ∷ [], subst (λ (t : ℕ). Days from t (from ∷ [])) (eqb-true from to i) end)
    go ih false i =
        let ne : from ≡ to → ⊥ = eqb-false from to i in
        let m : next from ≤ to = next_least from to e f (omega arith) in
        let x = ih (next_is_day from e (omega (arith, day_most to f))) m in
        (from ∷ x.0, day x.1)

-- ---- both ways

module _ (from to : ℕ) where
  pub no_period : NoPeriod from to → period_to from to ≡ none
  no_period h = go (period_to from to) refl h
    where
      go : (o : Option (List ℕ)) → period_to from to ≡ o → NoPeriod from to → o ≡ none
      go none e h = refl
      go (some ds) e (inl f) = absurd (false≢true (sym f ∙ period_end from to ds e))
      go (some ds) e (inr (inl l)) = absurd (omega (arith, days_order (period_days from to ds e)))
      go (some ds) e (inr (inr x)) =
          let i : ds ≡ x.days = days_one (period_days from to ds e) x.each in
          absurd (omega (arith, x.many, period_count from to ds e, ap length i))

  pub period_none : is_day from ≡ true → period_to from to ≡ none → NoPeriod from to
  unfolding period_to
  period_none d e = go (is_day to) (leb from to) refl refl e
    where
      counted : (ds : List ℕ) → Days from to ds → days_to most_days from to ≡ none → Dec (1096 < length ds) → NoPeriod from to
      counted ds h e (yes l) = inr (inr (record { days = ds; each = h; many = l }))
      counted ds h e (no n) = absurd (none-ne-some ds (sym e ∙ days_found most_days h (omega arith)))

      go : (a b : Bool) → is_day to ≡ a → leb from to ≡ b → cond (a && b) (days_to most_days from to) none ≡ none → NoPeriod from to
      go false b f g e = inl f
      go true false f g e = inr (inl (leb-false from to g))
      go true true f g e =
          let l : from ≤ to = leb-true from to g in
          let x = days_from to from to d f l (omega arith) in
          counted x.0 x.1 e (dec_lt 1096 (length x.0))

-- ---- the call

module _ {B : Type 0} (form : List Stretch → List B) (b s : List ℕ) (end room : ℕ) {book : List Record} {q : Question} (e : records b ≡ some book) (f : question_of s ≡ some q) where
  -- with an accepted book and question, 9 is given exactly where the dates make no period
  pub nine_period : NoPeriod q.date end → number_of (calendar_in form b s end room) ≡ 9
  unfolding calendar_in finished listing within
  nine_period h = rw (e, f, no_period q.date end h)

  pub period_nine : is_day q.date ≡ true → number_of (calendar_in form b s end room) ≡ 9 → NoPeriod q.date end
  unfolding calendar_in finished listing within
  period_nine d n = period_none q.date end d (go (period_to q.date end) (rw (e, f) at n))
    where
      rest : List ℕ → Result (List Stretch)
      rest days = or_refuse 3 (article_of book q.article) >>= λ _. done (stretches (outcome book q) days)

      not_nine : (r : Result (List Stretch)) → Refuses (λ n. n ≡ 9 → ⊥) r → number_of r ≡ 9 → ⊥
      not_nine (done a) h z = omega arith
      not_nine (refused n) h z = h z

      go : (o : Option (List ℕ)) → number_of (finished (λ ss. length (form ss)) room (or_refuse 9 o >>= rest)) ≡ 9 → o ≡ none
      go none z = refl
      go (some days) z =
          absurd (not_nine (finished (λ ss. length (form ss)) room (rest days)) (finished_refuses (λ n. n ≡ 9 → ⊥) (λ ss. length (form ss)) room (rest days) (λ z. omega arith)
          (or_refuses (λ n. n ≡ 9 → ⊥) 3 (article_of book q.article) _ (λ z. omega arith) (λ a. tt))) z)
