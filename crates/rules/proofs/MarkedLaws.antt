-- A calendar may mark more days than the days of change: between days of any set that holds these the outcome stays.
use Prim.Native.Nat.{ℕ, ◌≤◌, ◌<◌}
use mathlib.Core.Path.{◌≡◌, refl, sym, ◌∙◌, subst}
use mathlib.Core.Bool.{Bool, true, false, ◌&&◌, ◌||◌, false≢true, true≢false}
use mathlib.Core.List.{List, [], ◌∷◌}
use native.Mathlib.Omega.{arith}
use lib.Dec.{eqb}
use borrow.Author.Tests.{eqb-true}
use Rattle.rules.specs.Lists.{same, any, keep}
use Rattle.rules.specs.Days.{is_day, next, last_day}
use Rattle.rules.specs.Book.{Record, Row, rows}
use Rattle.rules.specs.Question.{Question}
use Rattle.rules.specs.Calendar.{outcome}
use Rattle.rules.specs.Changes.{dated, moving_rows, days_of_change, changes, is_change}
use Rattle.rules.proofs.TestLaws.{and_left, and_right}
use Rattle.rules.proofs.ListLaws.{All, kept, all_keep}
use Rattle.rules.proofs.RowLaws.{all_imply}
use Rattle.rules.proofs.DayLaws.{next_is_day, next_above, day_most}
use Rattle.rules.proofs.StaysLaws.{stays_next, stays}

-- ---- which sets will do

-- The set holds every day of change of the question.
pub record HoldsChanges (book : List Record) (q : Question) (marked : ℕ → Bool) : Type 0 where
  pub holds : (k : ℕ) → is_day k ≡ true → is_change book q.article q.sort k ≡ true → marked k ≡ true

-- the first day of a row and the day after its last, where these are days, are in the set
abbrev pub Marks : (ℕ → Bool) → Row → Type 0
Marks marked r = (is_day r.from ≡ true → marked r.from ≡ true) × (is_day (next r.to) ≡ true → marked (next r.to) ≡ true)

-- what holds of the first day of each of these rows and of the day after its last holds of each of their days of change
of_change : (P : ℕ → Type 0) (rs : List Row) → All (λ r. P r.from × P (next r.to)) rs → (k : ℕ) → any (eqb k) (days_of_change rs) ≡ true → P k
unfolding days_of_change
of_change P [] h k e = absurd (false≢true e)
of_change P (r ∷ rs) h k e = go (eqb k r.from) (eqb k (next r.to)) refl refl (of_change P rs h.1 k) e
  where
    go : (x y : Bool) → eqb k r.from ≡ x → eqb k (next r.to) ≡ y → (any (eqb k) (days_of_change rs) ≡ true → P k)
        → (x || (y || any (eqb k) (days_of_change rs))) ≡ true → P k
    go true y a b ih e = subst P (sym (eqb-true k r.from a)) h.0.0
    go false true a b ih e = subst P (sym (eqb-true k (next r.to) b)) h.0.1
    go false false a b ih e = ih e

module _ (book : List Record) (q : Question) where
  -- A set will do that has the first day and the day after the last of each row of the article and sort that has two days; ..
  pub marks_moving : (marked : ℕ → Bool) → All (Marks marked) (moving_rows q.article q.sort (rows book)) → HoldsChanges book q marked
  unfolding is_change changes
  marks_moving marked h =
      record {
        holds = λ k day e. of_change (λ k. is_day k ≡ true → marked k ≡ true) (moving_rows q.article q.sort (rows book)) h k e day;
      }

  -- .. and so one that has them for every row of the book.
  pub marks_rows : (marked : ℕ → Bool) → All (Marks marked) (rows book) → HoldsChanges book q marked
  unfolding moving_rows
  marks_rows marked h = marks_moving marked (all_keep (Marks marked) dated (keep _ (rows book)) (all_keep (Marks marked) _ (rows book) h))

  -- a day of change is a day, or behind the last of all
  change_day : (k : ℕ) → k ≤ last_day → is_change book q.article q.sort k ≡ true → is_day k ≡ true
  unfolding is_change changes moving_rows
  change_day k l e = of_change (λ k. k ≤ last_day → is_day k ≡ true) (keep dated own) (all_imply both (keep dated own) (kept dated own)) k e l
    where
      own : List Row
      own = keep (λ r. same r.article q.article && eqb r.sort q.sort) (rows book)

      both : (r : Row) → dated r ≡ true → (r.from ≤ last_day → is_day r.from ≡ true) × (next r.to ≤ last_day → is_day (next r.to) ≡ true)
      both r d = (
        λ _. and_left (is_day r.from) (is_day r.to) d,
        λ l. next_is_day r.to (and_right (is_day r.from) (is_day r.to) d) (omega (arith, next_above r.to)),
      )

  -- ---- the outcome stays

  module _ (marked : ℕ → Bool) (h : HoldsChanges book q marked) where
    unmarked : (k : ℕ) → is_day k ≡ true → marked k ≡ false → is_change book q.article q.sort k ≡ false
    unmarked k day m = go (is_change book q.article q.sort k) refl
      where
        go : (b : Bool) → is_change book q.article q.sort k ≡ b → b ≡ false
        go true e = absurd (true≢false (sym (h.holds k day e) ∙ m))
        go false e = refl

    -- A day that is not in the set has the outcome of the day before it.
    pub unmarked_next : (d : ℕ) → is_day d ≡ true → is_day (next d) ≡ true → marked (next d) ≡ false → outcome book q d ≡ outcome book q (next d)
    unmarked_next d day more m = stays_next book q d day more (unmarked (next d) more m)

    -- From a day to a later one the outcome stays where no day after the first is in the set; other numbers between them do not matter.
    pub unmarked_stays : (d e : ℕ) → is_day d ≡ true → is_day e ≡ true → d < e
        → ((k : ℕ) → is_day k ≡ true → d < k → k ≤ e → marked k ≡ false) → outcome book q d ≡ outcome book q e
    unmarked_stays d e day day' l m = stays book q d e day day' l (λ k a b. quiet k a b (is_change book q.article q.sort k) refl)
      where
        quiet : (k : ℕ) → d < k → k ≤ e → (b : Bool) → is_change book q.article q.sort k ≡ b → b ≡ false
        quiet k a b false c = refl
        quiet k a b true c =
            let is_day_lem : is_day k ≡ true = change_day k (omega (arith, day_most e day')) c in
            absurd (true≢false (sym (h.holds k is_day_lem c) ∙ m k is_day_lem a b))
