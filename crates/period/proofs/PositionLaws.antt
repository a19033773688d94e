-- The days of a period are in order, so a day stands at one position.
use Prim.Native.Nat.{ℕ, zero, suc, ◌+◌, ◌≤◌, ◌<◌}
use mathlib.Core.Path.{◌≡◌, refl, sym, ◌∙◌, ap, subst}
use mathlib.Core.Bool.{Bool, true, false, ◌||◌}
use mathlib.Core.List.{List, [], ◌∷◌}
use native.Mathlib.Omega.{arith}
use native.Mathlib.Decide.{dec_lt}
use lib.ListN.{length, get_or}
use borrow.Author.Tests.{ne_eqb}
use Rattle.rules.specs.Days.{is_day, next}
use Rattle.rules.specs.Calendar.{most_days}
use Rattle.rules.proofs.DayLaws.{next_above, next_is_day, day_most}
use Rattle.rules.proofs.CalendarLaws.{Days, end, day}
use Rattle.rules.proofs.TestLaws.{or_false}
use Rattle.period.specs.Positions.{Dates}
use Rattle.period.specs.Marks.{DateMarked}

-- ---- the days of a period are dates in order

-- what is known of the date at each position
record At (from to : ℕ) (ds : List ℕ) : Type 0 where
  first : get_or ds 0 0 ≡ from
  head : (i : ℕ) → i < length ds → from ≤ get_or ds i 0
  days : (i : ℕ) → i < length ds → is_day (get_or ds i 0) ≡ true
  follow : (i : ℕ) → i + 1 < length ds → get_or ds (i + 1) 0 ≡ next (get_or ds i 0)
  order : (i j : ℕ) → i < j → j < length ds → get_or ds i 0 < get_or ds j 0
  reach : from ≤ to

at_all : {from to : ℕ} {ds : List ℕ} → is_day from ≡ true → is_day to ≡ true → Days from to ds → At from to ds
at_all e g (end {d = d}) =
    record {
      first = refl;
      head = λ i l. one i l;
      follow = λ i l. absurd (omega arith);
      days = λ i l. subst (λ (x : ℕ). is_day x ≡ true) (sym (is i l)) e;
      order = λ i j l h. absurd (omega arith);
      reach = omega arith;
    }
  where
    is : (i : ℕ) → i < 1 → get_or (d ∷ []) i 0 ≡ d
    is zero l = refl
    is (suc i) l = absurd (omega arith)

    one : (i : ℕ) → i < 1 → d ≤ get_or (d ∷ []) i 0
    one i l = omega (arith, is i l)
at_all e g (day {d = d} {to = to} {ds = ds} h) = go (at_all (next_day h) g h)
  where
    next_day : Days (next d) to ds → is_day (next d) ≡ true
    next_day k = next_is_day d e (omega (arith, next_above d, order_of k, day_most to g))
      where
        order_of : {a b : ℕ} {es : List ℕ} → Days a b es → a ≤ b
        order_of (end {d = x}) = omega arith
        order_of (day {d = x} y) = omega (arith, next_above x, order_of y)

    go : At (next d) to ds → At d to (d ∷ ds)
    go a = record {
      first = refl;
      head = least;
      follow = next_one;
      days = each;
      order = below;
      reach = omega (arith, next_above d, a.reach);
    }
      where
        least : (i : ℕ) → i < length (d ∷ ds) → d ≤ get_or (d ∷ ds) i 0
        least zero l = omega arith
        least (suc i) l = omega (arith, next_above d, a.head i (omega arith))

        each : (i : ℕ) → i < length (d ∷ ds) → is_day (get_or (d ∷ ds) i 0) ≡ true
        each zero l = e
        each (suc i) l = a.days i (omega arith)

        next_one : (i : ℕ) → i + 1 < length (d ∷ ds) → get_or (d ∷ ds) (i + 1) 0 ≡ next (get_or (d ∷ ds) i 0)
        next_one zero l = a.first
        next_one (suc i) l =
            let e : suc i + 1 ≡ suc (i + 1) = omega arith in
            ap (λ (j : ℕ). get_or (d ∷ ds) j 0) e ∙ a.follow i (omega arith)

        below : (i j : ℕ) → i < j → j < length (d ∷ ds) → get_or (d ∷ ds) i 0 < get_or (d ∷ ds) j 0
        below zero zero l k = absurd (omega arith)
        below zero (suc j) l k = omega (arith, next_above d, a.head j (omega arith))
        below (suc i) zero l k = absurd (omega arith)
        below (suc i) (suc j) l k = a.order i j (omega arith) (omega arith)

-- what a walk over the days of a period asks of them
pub period_dates : {from to : ℕ} {ds : List ℕ} → is_day from ≡ true → is_day to ≡ true → Days from to ds → length ds ≤ most_days → Dates ds
period_dates e g h l = let a = at_all e g h in record {
  few = l;
  each_day = a.days;
  follow = a.follow;
  ascending = a.order;
}

-- ---- a date that is looked for

module _ {dates : List ℕ} (h : Dates dates) where
  pub dates_rise : (i j : ℕ) → i ≤ j → j < length dates → get_or dates i 0 ≤ get_or dates j 0
  dates_rise i j l k = go (dec_lt i j)
    where
      go : Dec (i < j) → get_or dates i 0 ≤ get_or dates j 0
      go (yes y) = omega (arith, h.ascending i j y k)
      go (no n) = let e : i ≡ j = omega arith in subst (λ (x : ℕ). get_or dates i 0 ≤ get_or dates x 0) e (omega arith)

  module _ {marks : List Bool} (long : length marks ≡ most_days) (d : ℕ) where
    -- no date is d
    marked_none : ((i : ℕ) → i < length dates → get_or dates i 0 ≡ d → ⊥) → DateMarked dates d marks marks
    marked_none n = record {
      long = refl;
      is = λ i l. sym (ap (λ (b : Bool). get_or marks i false || b) (ne_eqb (get_or dates i 0) d (n i l)) ∙ or_false (get_or marks i false));
      behind = λ i l. refl;
    }

    -- those before position p are below d, and the others above
    pub marked_missed : (p : ℕ) → ((i : ℕ) → i < p → get_or dates i 0 < d) → ((i : ℕ) → p ≤ i → i < length dates → d < get_or dates i 0) → DateMarked dates d marks marks
    marked_missed p below above = marked_none (λ i l e. go i l e (dec_lt i p))
      where
        go : (i : ℕ) → i < length dates → get_or dates i 0 ≡ d → Dec (i < p) → ⊥
        go i l e (yes y) = omega (arith, below i y)
        go i l e (no n) = omega (arith, above i (omega arith) l)
