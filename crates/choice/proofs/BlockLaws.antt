-- A record over the days of a block: it is the same on each of them, or it is listed; and what the list holds.
use Prim.Native.Nat.{ℕ, suc, ◌+◌, ◌≤◌, ◌<◌}
use mathlib.Core.Path.{◌≡◌, refl, sym, ◌∙◌, ap, subst}
use mathlib.Core.Bool.{Bool, true, false, ◌||◌, not, cond, false≢true}
use mathlib.Core.List.{List}
use native.Mathlib.Omega.{arith}
use Rattle.std.specs.Prelude.{Some, None}
use lib.Dec.{leb, ltb}
use lib.ListN.{length, take, set, length-set}
use lib.Seq.{take-suc-set}
use borrow.Author.Tests.{lt-leb, ltb-true}
use Rattle.rules.specs.Lists.{between}
use Rattle.rules.specs.Layout.{whole}
use Rattle.rules.specs.Days.{is_day}
use Rattle.rules.specs.Book.{Row}
use Rattle.rules.specs.BookLayout.{kinded}
use Rattle.rules.specs.Question.{Question, on}
use Rattle.rules.specs.Choice.{percent_base, reaches}
use Rattle.rules.specs.declared.PriceRow.{PriceRow}
use Rattle.rules.proofs.TestLaws.{and_left, and_right, and_false, both, between_low, is_between}
use Rattle.rules.proofs.ChoiceLaws.{is_asked, stands}
use Rattle.layout.specs.Ensures.{Says}
use Rattle.records.specs.Tests as Tests
use Rattle.records.specs.Ensures.{row_in, RowIs}
use Rattle.grants.specs.declared.terms.Terms.{Terms}
use Rattle.grants.specs.Asks.{Asks, terms_on}
use Rattle.choice.specs.declared.hands.Passing.{Passing}
use Rattle.choice.specs.declared.block.Through.{Through}
use Rattle.choice.specs.declared.block.Through.TheVariants.{Never, Always}
use Rattle.choice.specs.declared.noted.Noted.{Noted}
use Rattle.choice.specs.Hands.{Going, counted}
use Rattle.choice.specs.Walk.{slot_of, standing, passing_of, uncounted, Alike, Same, Unread, SlotIs, RowPasses}
use Rattle.choice.specs.Block.{AsksWithin, passing_through, RowThrough, PassesThrough, most_noted, NotedAfter}
use Rattle.choice.proofs.PassingLaws.{no_day, row_is, other_is}

-- ---- a row over the days

-- a row that counts on the first day counts on each later one through its last
counts_on : (r : Row) (first d : ℕ) → stands first r ≡ true → first ≤ d → d ≤ r.to → stands d r ≡ true
counts_on r first d e l h =
    let dates = and_right (not (percent_base r)) _ e in
    let days = and_right (is_day r.from) _ dates in
    let begun : r.from ≤ first = between_low r.from r.to first (and_right (is_day r.to) _ days) in
    both (not (percent_base r)) _ (and_left (not (percent_base r)) _ e)
    (both (is_day r.from) _ (and_left (is_day r.from) _ dates) (both (is_day r.to) _ (and_left (is_day r.to) _ days) (is_between r.from r.to d (omega arith) h)))

-- one that is not there yet or no more does not
not_on : (r : Row) (d : ℕ) → between r.from r.to d ≡ false → stands d r ≡ false
not_on r d e = rw (e, no_day (is_day r.from) (is_day r.to)) (and_false (not (percent_base r)))

module _ {article table : List ℕ} {terms : Terms} {last : ℕ} {q : Question} (a : AsksWithin q article table terms last) where
  -- on the first day it would ask by the terms
  asks_first : Asks (on q terms.date.0) article table terms
  unfolding on
  asks_first = record {
    article = a.asks.article;
    sort = a.asks.sort;
    currency = a.asks.currency;
    date = refl;
    quantity = a.asks.quantity;
    granted = a.asks.granted;
    count = a.asks.count;
  }

module _ (t : List ℕ) (row : PriceRow) (at : ℕ) (table : List ℕ) (terms : Terms) (last : ℕ) where
  pub row_never : (ltb last row.from || ltb row.to terms.date.0) ≡ true → RowThrough table terms last at (row_in t row) Never
  unfolding passing_of row_in
  row_never e = record {
    below = tt;
    steady = λ z q a.
        Same (ap (λ (b : Bool). cond b (standing q at (row_in t row)) uncounted)
        (sym (not_on (row_in t row) q.date (outside q.date (omega (arith, a.asks.date, a.low)) (omega (arith, a.asks.date, a.high)) (ltb last row.from) (ltb row.to terms.date.0) refl refl e))));
  }
    where
      outside : (d : ℕ) → terms.date.0 ≤ d → d ≤ last → (x y : Bool) → ltb last row.from ≡ x → ltb row.to terms.date.0 ≡ y → (x || y) ≡ true → between row.from row.to d ≡ false
      outside d l h true y f g z = rw (lt-leb row.from d (omega (arith, ltb-true last row.from f)))
      outside d l h false true f g z = rw (lt-leb d row.to (omega (arith, ltb-true row.to terms.date.0 g))) (and_false (leb row.from d))
      outside d l h false false f g z = absurd (false≢true z)

  pub row_shared : {p : Passing} → RowPasses table terms at (row_in t row) (Some p) → last ≤ row.to → RowThrough table terms last at (row_in t row) (Always p)
  unfolding passing_of slot_of on row_in
  row_shared {p} pass e = record {
    below = pass.below;
    steady = λ z q a.
        shared q (pass.of (on q terms.date.0) (asks_first a)) (omega (arith, a.asks.date, a.low)) (omega (arith, a.asks.date, a.high));
  }
    where
      go : (q : Question) (b : Bool) → stands terms.date.0 (row_in t row) ≡ b → counted p ≡ cond b (standing (on q terms.date.0) at (row_in t row)) uncounted → terms.date.0 ≤ q.date → q.date ≤ row.to
          → counted p ≡ passing_of q at (row_in t row)
      go q true f g l h =
          let then = counts_on (row_in t row) terms.date.0 q.date f l h in
          g
          ∙ (λ i.
          record {
            slot = slot_of q (row_in t row);
            stands = (f ∙ sym then) i;
            asked = is_asked q.currency (row_in t row);
            reaches = reaches q.quantity (row_in t row);
            hand = record { at = at; upto = row.upto; from = row.from; rounding = row.rounding };
          })
          ∙ ap (λ (x : Bool). cond x (standing q at (row_in t row)) uncounted) (sym then)
      go q false f g l h = absurd (false≢true (sym (ap (λ (x : Going). x.stands) g)))

      shared : (q : Question) → Alike (counted p) (passing_of (on q terms.date.0) at (row_in t row)) → terms.date.0 ≤ q.date → q.date ≤ row.to
          → Alike (counted p) (passing_of q at (row_in t row))
      shared q (Same e) l h = Same (go q (stands terms.date.0 (row_in t row)) refl e l h)
      shared q (Unread e f) l h = absurd (omega (arith, pass.below))

  -- where its condition is not granted it need not be
  pub row_unnoted : SlotIs table terms (row_in t row) None → RowThrough table terms last at (row_in t row) Never
  unfolding on passing_of slot_of
  row_unnoted s = record { below = tt; steady = λ z q a. Unread refl (go q (s.of (on q terms.date.0) (asks_first a)) (stands q.date (row_in t row))) }
    where
      go : (q : Question) → 99 ≡ slot_of q (row_in t row) → (b : Bool) → (cond b (standing q at (row_in t row)) uncounted).slot ≡ 99
      go q e true = sym e
      go q e false = refl

-- ---- any record

module _ (t article table : List ℕ) (terms : Terms) (at last : ℕ) {b : Bool} (s : Says (Tests.is_row article terms.sort (whole kinded t)) b) where
  pub through_row : {row : PriceRow} {x : Through} → b ≡ true → RowIs t row → RowThrough table terms last at (row_in t row) x → PassesThrough article table terms last at (whole kinded t) x
  through_row {x = x} e r h = record {
    below = h.below;
    steady = λ z q a. subst (Alike (passing_through x)) (row_is t article table (terms_on terms a.day) at s e r q a.asks) (h.steady z q a);
  }

  pub through_other : b ≡ false → PassesThrough article table terms last at (whole kinded t) Never
  through_other e = record {
    below = tt;
    steady = λ z q a. Same (other_is t article table (terms_on terms a.day) at s e q a.asks);
  }

-- ---- the rows that are noted

module _ (old : Noted) (at : ℕ) where
  pub note_none : NotedAfter old false at old
  note_none = record { long = refl; few = λ h. h; is = λ h. refl }

  pub note_one : length old.rows ≡ most_noted → old.n < most_noted → NotedAfter old true at (record { rows = set old.rows old.n at; n = old.n + 1 })
  note_one k l = record {
    long = length-set old.rows old.n at;
    few = λ h. omega arith;
    is = λ h.
        let e : old.n + 1 ≡ suc old.n = omega arith in
        ap (λ (k : ℕ). take k (set old.rows old.n at)) e ∙ take-suc-set old.rows old.n at (omega arith);
  }

  pub note_many : most_noted ≤ old.n → NotedAfter old true at (record { rows = old.rows; n = 2049 })
  note_many l = record { long = refl; few = λ h. absurd (omega arith); is = λ h. absurd (omega arith) }
