-- From a day to a later one the outcome stays, where no day after the first is a day of change.
use Prim.Native.Nat.{ℕ, ◌≤◌, ◌<◌}
use mathlib.Core.Path.{◌≡◌, refl, sym, ◌∙◌, ap, subst}
use mathlib.Core.Bool.{Bool, true, false, ◌&&◌, ◌||◌, not, true≢false}
use mathlib.Core.List.{List, [], ◌∷◌}
use mathlib.Core.Option.{Option, map}
use native.Mathlib.Omega.{arith}
use lib.Dec.{eqb, leb}
use borrow.Author.Tests.{leb-true, leb-false, eqb-false}
use Rattle.rules.specs.Lists.{same, between, any, keep, cons_if, gather, cons_some}
use Rattle.rules.specs.Days.{is_day, next, last_day}
use Rattle.rules.specs.Book.{Record, Row, rows, roundings}
use Rattle.rules.specs.Question.{Question, on, grants}
use Rattle.rules.specs.Choice.{component, percent_base, holds_on, step₁, step₂, step₃, step₄, step₅, surviving, choose}
use Rattle.rules.specs.Lines.{Slot, slots, chosen_in, rows_at, chosen_at, chosen, lines_after, lines_of}
use Rattle.rules.specs.Price.{priced}
use Rattle.rules.specs.Calendar.{outcome_of, outcome}
use Rattle.rules.specs.Changes.{dated, moving_rows, days_of_change, changes, is_change}
use Rattle.rules.proofs.TestLaws.{and_left, and_right, not_below}
use Rattle.rules.proofs.ListLaws.{keep_keep}
use Rattle.rules.proofs.DayLaws.{next_least, next_above, next_is_day, day_most, Later, once, again, later_greater, greater_later}

-- ---- a row, from a day to the next

leb_same : (a b c d : ℕ) → (a ≤ b → c ≤ d) → (c ≤ d → a ≤ b) → leb a b ≡ leb c d
leb_same a b c d f g = go (leb a b) (leb c d) refl refl
  where
    go : (x y : Bool) → leb a b ≡ x → leb c d ≡ y → x ≡ y
    go true true p q = refl
    go true false p q = absurd (omega (arith, f (leb-true a b p), leb-false c d q))
    go false true p q = absurd (omega (arith, leb-false a b p, g (leb-true c d q)))
    go false false p q = refl

module _ (d : ℕ) (day : is_day d ≡ true) (more : is_day (next d) ≡ true) where
  -- it begins on the next day, or holds on both by its first day, or on neither
  begins : (from : ℕ) → is_day from ≡ true → (next d ≡ from → ⊥) → leb from d ≡ leb from (next d)
  begins from f n =
      leb_same from d from (next d) (λ h. omega (arith, next_above d))
      (λ h. not_below d from (λ k. n (let l : next d ≤ from = next_least d from day f k in omega arith)))

  -- and so by its last day
  ends : (to : ℕ) → is_day to ≡ true → (next d ≡ next to → ⊥) → leb d to ≡ leb (next d) to
  ends to t n =
      leb_same d to (next d) to
      (λ h. next_least d to day t (let ne : d ≡ to → ⊥ = λ e. n (ap next e) in omega arith))
      (λ h. omega (arith, next_above d))

  lasts : (from to : ℕ) → is_day from ≡ true → is_day to ≡ true → (next d ≡ from → ⊥) → (next d ≡ next to → ⊥) → between from to d ≡ between from to (next d)
  lasts from to f t m n = λ i. begins from f m i && ends to t n i

-- ---- the rows of the article and sort

or_left : (a b : Bool) → (a || b) ≡ false → a ≡ false
or_left true b e = absurd (true≢false e)
or_left false b e = refl

or_right : (a b : Bool) → (a || b) ≡ false → b ≡ false
or_right true b e = absurd (true≢false e)
or_right false b e = e

-- the tests of a row in the order in which they are made: article, sort, level and condition, no percentage as a base price, both dates days, the day between them
bools : (a s lc np f t b b' : Bool) → ((a && s) ≡ true → (f && t) ≡ true → b ≡ b')
    → (((a && (s && lc)) && np) && (f && (t && b))) ≡ (((a && (s && lc)) && np) && (f && (t && b')))
bools true true lc np true true b b' h = ap (λ (x : Bool). (lc && np) && x) (h refl refl)
bools true true lc np true false b b' h = refl
bools true true lc np false t b b' h = refl
bools true false lc np f t b b' h = refl
bools false s lc np f t b b' h = refl

module _ (d : ℕ) (day : is_day d ≡ true) (more : is_day (next d) ≡ true) (article : List ℕ) (sort : ℕ) where
  abbrev own : Row → Bool
  own r = same r.article article && eqb r.sort sort

  -- that day none of the rows begins or has ended
  abbrev Quiet : List Row → Type 0
  Quiet rs = any (eqb (next d)) (days_of_change (keep dated (keep own rs))) ≡ false

  quiet_if : (r : Row) (rest : List Row) (a b : Bool) → any (eqb (next d)) (days_of_change (keep dated (cons_if a r rest))) ≡ false → own r ≡ a → dated r ≡ b
      → (own r ≡ true → dated r ≡ true → between r.from r.to d ≡ between r.from r.to (next d)) × (any (eqb (next d)) (days_of_change (keep dated rest)) ≡ false)
  unfolding days_of_change
  quiet_if r rest false b q e f = (λ m n. absurd (true≢false (sym m ∙ e)), q)
  quiet_if r rest true false q e f = (λ m n. absurd (true≢false (sym n ∙ f)), subst (λ (x : Bool). any (eqb (next d)) (days_of_change (cons_if x r (keep dated rest))) ≡ false) f q)
  quiet_if r rest true true q e f =
      let q' : any (eqb (next d)) (r.from ∷ next r.to ∷ days_of_change (keep dated rest)) ≡ false = subst (λ (x : Bool). any (eqb (next d)) (days_of_change (cons_if x r (keep dated rest))) ≡ false) f q in
      let rest' = or_right (eqb (next d) r.from) (eqb (next d) (next r.to) || any (eqb (next d)) (days_of_change (keep dated rest))) q' in (
        λ m n.
            lasts d day more r.from r.to (and_left (is_day r.from) (is_day r.to) n) (and_right (is_day r.from) (is_day r.to) n)
            (eqb-false (next d) r.from (or_left (eqb (next d) r.from) (eqb (next d) (next r.to) || any (eqb (next d)) (days_of_change (keep dated rest))) q'))
            (eqb-false (next d) (next r.to) (or_left (eqb (next d) (next r.to)) (any (eqb (next d)) (days_of_change (keep dated rest))) rest')),
        or_right (eqb (next d) (next r.to)) (any (eqb (next d)) (days_of_change (keep dated rest))) rest',
      )

  module _ (level : ℕ) (condition : List ℕ) where
    -- the tests of a component, of step 1 and of step 2
    abbrev left : ℕ → Row → Bool
    left date r = ((same r.article article && (eqb r.sort sort && (eqb r.level level && same r.condition condition))) && not (percent_base r)) && holds_on date r

    still_left : (rs : List Row) → Quiet rs → keep (left d) rs ≡ keep (left (next d)) rs
    still_left [] q = refl
    still_left (r ∷ rs) q =
        let h = quiet_if r (keep own rs) (own r) (dated r) q refl refl in
        λ i.
        cons_if
        (bools (same r.article article) (eqb r.sort sort) (eqb r.level level && same r.condition condition) (not (percent_base r)) (is_day r.from) (is_day r.to) (between r.from r.to d) (between r.from r.to (next d)) h.0 i)
        r (still_left rs h.1 i)

    fused : (date : ℕ) (rs : List Row) → step₂ date (step₁ (component article sort level condition rs)) ≡ keep (left date) rs
    unfolding step₁ step₂ component
    fused date rs = ap (keep (holds_on date)) (keep_keep _ _ rs) ∙ keep_keep _ _ rs

    choice_stays : (quantity : ℕ) (asked : Option (List ℕ)) (rs : List Row) → Quiet rs
        → choose d quantity asked (component article sort level condition rs) ≡ choose (next d) quantity asked (component article sort level condition rs)
    unfolding choose surviving
    choice_stays quantity asked rs q = ap (λ (xs : List Row). step₅ (step₄ quantity (step₃ asked xs))) (fused d rs ∙ (still_left rs q ∙ sym (fused (next d) rs)))

-- ---- the lines, the price, the outcome

gather_same : {A B : Type 0} (f g : A → Option B) → ((x : A) → f x ≡ g x) → (xs : List A) → gather f xs ≡ gather g xs
gather_same f g h [] = refl
gather_same f g h (x ∷ xs) = λ i. cons_some (h x i) (gather_same f g h xs i)

module _ (book : List Record) (q : Question) where
  module _ (d : ℕ) (day : is_day d ≡ true) (more : is_day (next d) ≡ true) (quiet : is_change book q.article q.sort (next d) ≡ false) where
    slot_stays : (s : Slot) → chosen_at (rows book) (on q d) s ≡ chosen_at (rows book) (on q (next d)) s
    unfolding chosen_at rows_at on is_change changes moving_rows
    slot_stays s = ap (map (chosen_in s)) (choice_stays d day more q.article q.sort s.level s.condition q.quantity q.currency (rows book) quiet)

    lines_stay : lines_of book (on q d) ≡ lines_of book (on q (next d))
    unfolding lines_of chosen on
    lines_stay = ap (lines_after (roundings book) []) (gather_same (chosen_at (rows book) (on q d)) (chosen_at (rows book) (on q (next d))) slot_stays (slots (grants q.granted)))

    priced_stays : priced book (on q d) ≡ priced book (on q (next d))
    unfolding priced
    priced_stays = rw lines_stay

    -- A day that is no day of change has the outcome of the day before it.
    pub stays_next : outcome book q d ≡ outcome book q (next d)
    unfolding outcome
    stays_next = ap outcome_of priced_stays

  later_day : (d e : ℕ) → is_day d ≡ true → Later d e → e ≤ last_day → is_day e ≡ true
  later_day d _ day once l = next_is_day d day (omega (arith, next_above d))
  later_day d _ day (again {e} h) l = next_is_day e (later_day d e day h (omega (arith, next_above e))) (omega (arith, next_above e))

  stays_later : (d e : ℕ) → is_day d ≡ true → Later d e → e ≤ last_day → ((k : ℕ) → d < k → k ≤ e → is_change book q.article q.sort k ≡ false) → outcome book q d ≡ outcome book q e
  stays_later d _ day once l quiet = stays_next d day (next_is_day d day (omega (arith, next_above d))) (quiet (next d) (next_above d) (omega arith))
  stays_later d _ day (again {e} h) l quiet =
      let e-day = later_day d e day h (omega (arith, next_above e)) in
      stays_later d e day h (omega (arith, next_above e)) (λ k a b. quiet k a (omega (arith, next_above e)))
      ∙ stays_next e e-day (next_is_day e e-day (omega (arith, next_above e))) (quiet (next e) (omega (arith, later_greater d e h, next_above e)) (omega arith))

  -- So between two days of change it stays, however many days lie between.
  pub stays : (d e : ℕ) → is_day d ≡ true → is_day e ≡ true → d < e → ((k : ℕ) → d < k → k ≤ e → is_change book q.article q.sort k ≡ false) → outcome book q d ≡ outcome book q e
  stays d e day day' l quiet = stays_later d e day (greater_later d e day day' l) (day_most e day') quiet
