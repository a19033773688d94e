-- A record that goes by: its slot, whether it holds, and in which currency it is, by its fields.
use Prim.Native.Nat.{ℕ, ◌+◌, ◌-◌, ◌*◌, ◌≤◌, ◌<◌}
use mathlib.Core.Path.{◌≡◌, refl, sym, ◌∙◌, ap, subst}
use mathlib.Core.Bool.{Bool, true, false, ◌&&◌, ◌||◌, not, cond, and_assoc}
use mathlib.Core.List.{List}
use mathlib.Core.Option.{Option, some, none, some-injective}
use native.Mathlib.Omega.{arith}
use Rattle.std.specs.Prelude as Std
use Rattle.std.specs.Prelude.{Some, None}
use native.Mathlib.Decide.{dec_lt}
use lib.Dec.{eqb, leb, ltb}
use lib.ListN.{take, drop}
use borrow.Author.Tests.{lt-ltb, le-ltb, eq-eqb, ne_eqb, eqb-true, eqb-false}
use Rattle.rules.specs.Lists.{same, if_some, between}
use Rattle.rules.specs.Layout.{whole}
use Rattle.rules.specs.Days.{is_day}
use Rattle.rules.specs.Book.{Row, Record, PriceRecord, as_row, base, letter_of}
use Rattle.rules.specs.BookLayout.{kinded}
use Rattle.rules.specs.Question.{Question, asked_of, letters_of}
use Rattle.rules.specs.Choice.{is_percent}
use Rattle.rules.specs.declared.Level.{Level}
use Rattle.rules.specs.declared.PriceRow.{PriceRow}
use Rattle.rules.proofs.TestLaws.{and_false}
use Rattle.rules.proofs.KindLaws.{row_kind, same_held}
use Rattle.rules.proofs.ChoiceLaws.{is_asked, stands}
use Rattle.layout.specs.Ensures.{Number, Says}
use Rattle.records.specs.Tests as Tests
use Rattle.records.specs.Ensures.{row_in, RowIs}
use Rattle.grants.specs.declared.terms.Terms.{Terms}
use Rattle.grants.specs.Places.{place_of, PlaceIs}
use Rattle.grants.specs.Asks.{Asks}
use Rattle.choice.specs.declared.hands.Passing.{Passing}
use Rattle.choice.specs.Slots.{level_of, in_slot}
use Rattle.choice.specs.Walk.{slot_at, slot_of, standing, passing_of, is_own, passing_in, in_asked, Alike, Same, Unread, going, SlotAt, SlotIs, row_stands, PlacedIs, RowPasses, Passes, uncounted}

-- ---- the slot

module _ (level : Level) (place : ℕ) where
  pub slot_far : 33 ≤ place → SlotAt (slot_at (level_of (letter_of level)) place) None
  unfolding slot_at
  slot_far h = record { below = tt; is = sym (rw (le-ltb place 33 h, and_false (ltb (level_of (letter_of level)) 3))) }

  pub slot_near : {n : ℕ} → Number (level_of (letter_of level)) 3 n → place < 33 → SlotAt (slot_at (level_of (letter_of level)) place) (Some (n * 33 + place))
  unfolding slot_at
  slot_near {n} l h = record { below = omega (arith, l.below); is = sym (rw (← l.is, lt-ltb n 3 l.below, lt-ltb place 33 h)) }

pub slot_is : (t : List ℕ) (row : PriceRow) {table : List ℕ} {terms : Terms} {place : ℕ} {i : Std.Option ℕ}
    → PlaceIs table terms.names (take (row.condition.at + row.condition.size - row.condition.at) (drop row.condition.at t)) place
    → SlotAt (slot_at (level_of (letter_of row.level)) place) i → SlotIs table terms (row_in t row) i
unfolding slot_of row_in
slot_is t row p s =
    let k : row.condition.at + row.condition.size - row.condition.at ≡ row.condition.size = omega arith in
    record { below = s.below; of = λ q a. s.is ∙ rw ((p.of q.granted a.granted a.count).is, k) }

-- a slot has one level and one place
slot_test : (a b level place : ℕ) → level < 3 → place < 33 → eqb (slot_at a b) (level * 33 + place) ≡ (eqb a level && eqb b place)
unfolding slot_at
slot_test a b level place l p = go (dec_lt a 3) (dec_lt b 33)
  where
    far : (a < 3 → b < 33 → ⊥) → eqb 99 (level * 33 + place) ≡ (eqb a level && eqb b place)
    far n = ne_eqb 99 (level * 33 + place) (λ e. omega arith) ∙ sym (each (eqb a level) (eqb b place) refl refl)
      where
        each : (x y : Bool) → eqb a level ≡ x → eqb b place ≡ y → (x && y) ≡ false
        each true true e f = absurd (n (omega (arith, eqb-true a level e)) (omega (arith, eqb-true b place f)))
        each true false e f = refl
        each false y e f = refl

    near : a < 3 → b < 33 → (x y : Bool) → eqb a level ≡ x → eqb b place ≡ y → eqb (a * 33 + b) (level * 33 + place) ≡ (x && y)
    near h k true true e f = eq-eqb (a * 33 + b) (level * 33 + place) (omega (arith, eqb-true a level e, eqb-true b place f))
    near h k true false e f = ne_eqb (a * 33 + b) (level * 33 + place) (λ g. eqb-false b place f (omega (arith, eqb-true a level e)))
    near h k false y e f = ne_eqb (a * 33 + b) (level * 33 + place) (λ g. eqb-false a level e (omega arith))

    go : Dec (a < 3) → Dec (b < 33) → eqb (cond (ltb a 3 && ltb b 33) (a * 33 + b) 99) (level * 33 + place) ≡ (eqb a level && eqb b place)
    go (yes h) (yes k) = rw (lt-ltb a 3 h, lt-ltb b 33 k) (near h k (eqb a level) (eqb b place) refl refl)
    go (yes h) (no k) =
        let j : 33 ≤ b = omega arith in
        rw (lt-ltb a 3 h, le-ltb b 33 j) (far (λ x y. k y))
    go (no h) k =
        let j : 3 ≤ a = omega arith in
        rw (le-ltb a 3 j) (far (λ x y. h x))

pub slot_in : (q : Question) (r : Row) (level place : ℕ) → level < 3 → place < 33
    → in_slot q level place r ≡ (is_own q r && eqb (slot_of q r) (level * 33 + place))
unfolding in_slot slot_of
slot_in q r level place l p =
    sym (and_assoc (same r.article q.article) (eqb r.sort q.sort) _)
    ∙ ap (λ b. is_own q r && b) (sym (slot_test (level_of r.level) (place_of q.granted r.condition) level place l p))

-- ---- the tests

pub no_day : (a b : Bool) → (a && (b && false)) ≡ false
no_day true b = and_false b
no_day false b = refl

-- ---- a row

in_asked_lem : (o : Option (List ℕ)) (r : Row) → is_asked o r ≡ in_asked o r.currency
in_asked_lem none r = refl
in_asked_lem (some c) r = refl

pub stands_is : (row : PriceRow) (d : ℕ) {percent holds : Bool} → Says (eqb (letter_of row.level) base && is_percent row.value) percent
    → Says (is_day row.from && (is_day row.to && between row.from row.to d)) holds → Says (row_stands d row) (not percent && holds)
stands_is row d p h = record { is = λ i. not (p.is i) && h.is i }

pub placed_is : (row : PriceRow) {at slot : ℕ} {terms : Terms} {asked : Bool} → Says (in_asked (asked_of (letters_of terms.currency)) (letters_of row.currency)) asked
    → PlacedIs terms at slot row (record {
      slot = slot;
      asked = asked;
      reaches = eqb row.upto 0 || leb terms.quantity row.upto;
      hand = record { at = at; upto = row.upto; from = row.from; rounding = row.rounding };
    })
placed_is row c = record { slot = refl; asked = sym c.is; reaches = refl; hand = refl }

module _ (t : List ℕ) (row : PriceRow) (at : ℕ) (table : List ℕ) (terms : Terms) {b : Bool} (h : Says (row_stands terms.date.0 row) b) where
  counts : {article : List ℕ} (q : Question) → Asks q article table terms → stands q.date (row_in t row) ≡ b
  unfolding row_in
  counts q a = ap (λ (d : ℕ). stands d (row_in t row)) a.date ∙ h.is

  pub row_past : b ≡ false → RowPasses table terms at (row_in t row) None
  unfolding passing_of
  row_past e = record {
    below = tt;
    of = λ q a. Same (ap (λ (x : Bool). cond x (standing q at (row_in t row)) uncounted) (sym (counts q a ∙ e)));
  }

  pub row_passes : b ≡ true → {slot : ℕ} {p : Passing} → SlotIs table terms (row_in t row) (Some slot) → PlacedIs terms at slot row p → RowPasses table terms at (row_in t row) (Some p)
  unfolding passing_of row_in
  row_passes e s c = record {
    below = omega (arith, c.slot, s.below);
    of = λ q a.
        let asked-too =
        c.asked ∙ ap (λ (o : Option (List ℕ)). in_asked o (letters_of row.currency)) (sym a.currency) ∙ sym (in_asked_lem q.currency (row_in t row)) in
        let counts-too : true ≡ stands q.date (row_in t row) = sym (counts q a ∙ e) in
        let reaches-too = c.reaches ∙ ap (λ (n : ℕ). eqb row.upto 0 || leb n row.upto) (sym a.quantity) in
        Same
        ((λ i.
        record {
          slot = (c.slot ∙ s.of q a) i;
          stands = counts-too i;
          asked = asked-too i;
          reaches = reaches-too i;
          hand = c.hand i;
        })
        ∙ ap (λ (x : Bool). cond x (standing q at (row_in t row)) uncounted) counts-too);
  }

-- where its condition is not granted it is in no slot
module _ (t : List ℕ) (row : PriceRow) {table : List ℕ} {terms : Terms} (s : SlotIs table terms (row_in t row) None) where
  pub row_unread : {article : List ℕ} (q : Question) → Asks q article table terms → (at : ℕ) → Alike uncounted (passing_of q at (row_in t row))
  unfolding passing_of
  row_unread q a at = Unread refl (go (stands q.date (row_in t row)))
    where
      go : (b : Bool) → (cond b (standing q at (row_in t row)) uncounted).slot ≡ 99
      go true = sym (s.of q a)
      go false = refl

  pub row_nowhere : {at : ℕ} → RowPasses table terms at (row_in t row) None
  row_nowhere {at} = record { below = tt; of = λ q a. row_unread q a at }

-- ---- any record

-- a record is one row
pub same_row : {x y : Row} → some (PriceRecord x) ≡ some (PriceRecord y) → x ≡ y
same_row {x} {y} e = same_held row_kind x y (some-injective (PriceRecord x) (PriceRecord y) e)

-- no row of the asked article and sort
foreign : (q : Question) (at : ℕ) (o : Option Record) → Tests.is_row q.article q.sort o ≡ false → passing_in q at o ≡ uncounted
unfolding passing_in Tests.is_row
foreign q at none e = refl
foreign q at (some x) e = go (as_row x) e
  where
    go : (o : Option Row) → if_some o false (is_own q) ≡ false → if_some o uncounted (λ r. cond (is_own q r) (passing_of q at r) uncounted) ≡ uncounted
    go none e = refl
    go (some r) e = ap (λ (b : Bool). cond b (passing_of q at r) uncounted) e

module _ (t article table : List ℕ) (terms : Terms) (at : ℕ) {b : Bool} (s : Says (Tests.is_row article terms.sort (whole kinded t)) b) where
  told : (q : Question) → Asks q article table terms → Tests.is_row q.article q.sort (whole kinded t) ≡ b
  told q a = (λ i. Tests.is_row (a.article i) (a.sort i) (whole kinded t)) ∙ s.is

  pub row_is : {row : PriceRow} → b ≡ true → RowIs t row → (q : Question) → Asks q article table terms → passing_of q at (row_in t row) ≡ passing_in q at (whole kinded t)
  unfolding passing_in Tests.is_row
  row_is {row} e r q a =
      let own : is_own q (row_in t row) ≡ true = sym (ap (Tests.is_row q.article q.sort) r.is) ∙ told q a ∙ e in
      ap (λ (x : Bool). cond x (passing_of q at (row_in t row)) uncounted) (sym own) ∙ ap (passing_in q at) (sym r.is)

  pub other_is : b ≡ false → (q : Question) → Asks q article table terms → uncounted ≡ passing_in q at (whole kinded t)
  other_is e q a = sym (foreign q at (whole kinded t) (told q a ∙ e))

  pub passes_row : {row : PriceRow} {p : Std.Option Passing} → b ≡ true → RowIs t row → RowPasses table terms at (row_in t row) p → Passes article table terms at (whole kinded t) p
  passes_row {p = p} e r h = record { below = h.below; of = λ q a. subst (Alike (going p)) (row_is e r q a) (h.of q a) }

  pub passes_other : b ≡ false → Passes article table terms at (whole kinded t) None
  passes_other e = record { below = tt; of = λ q a. Same (other_is e q a) }
