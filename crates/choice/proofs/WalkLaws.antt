-- The walk over the records: each slot sees the rows of its level and place, and no others, in the book's order.
use Prim.Native.Nat.{ℕ, ◌+◌, ◌-◌, ◌*◌, ◌≤◌, ◌<◌}
use mathlib.Core.Path.{◌≡◌, refl, sym, ◌∙◌, ap, subst}
use mathlib.Core.Bool.{Bool, true, false, ◌&&◌, ◌||◌, cond}
use mathlib.Core.List.{List, [], ◌∷◌}
use mathlib.Core.Option.{Option, some, none}
use native.Mathlib.Omega.{arith}
use Rattle.std.specs.Prelude as Std
use native.Mathlib.Decide.{ℕ_discrete}
use lib.Dec.{eqb, ltb}
use lib.ListN.{length, take, drop, get_or, set, replicate, length-set, length-replicate, get_or-replicate}
use lib.Seq.{get_or-set_same, get_or-set_other}
use borrow.Author.Tests.{le-ltb, eq-eqb, ne_eqb, eqb-true, eqb-false}
use Rattle.rules.specs.Lists.{if_some, keep, cons_if, cons_some}
use Rattle.rules.specs.Layout.{whole}
use Rattle.rules.specs.Book.{Row, Record, PriceRecord, as_row, rows}
use Rattle.rules.specs.BookLayout.{kinded}
use Rattle.rules.specs.Question.{Question}
use Rattle.rules.specs.Choice.{better, reaches}
use Rattle.rules.proofs.TestLaws.{or_false, and_false}
use Rattle.rules.proofs.BestLaws.{in_hand}
use Rattle.rules.proofs.KindLaws.{row_kind, read_only}
use Rattle.rules.proofs.ChoiceLaws as Choice
use Rattle.layout.specs.Records.{records_left, Between, RecordHere, StopIs}
use Rattle.book.proofs.WalkLaws.{pass_here, pass_next, pass_record, pass_end}
use Rattle.grants.specs.declared.terms.Terms.{Terms}
use Rattle.grants.specs.Asks.{Asks}
use Rattle.choice.specs.declared.hands.Hand.{Hand}
use Rattle.choice.specs.declared.hands.Seen.{Seen}
use Rattle.choice.specs.declared.hands.Passing.{Passing}
use Rattle.choice.specs.Slots.{in_slot}
use Rattle.choice.specs.Hands.{Going, counted, is_empty, limit_of, better_hand, hand_after, seen_after, SeenAfter, RowThere, Holds, HandIs, NoRow, OneRow, SeenIs}
use Rattle.choice.specs.Walk.{no_slot, slot_of, standing, passing_of, is_own, passing_in, uncounted, Alike, Same, Unread, going, Passes, unseen, seen_of, SlotsFor}
use Rattle.choice.specs.Block.{slot_after, TookIn, slot_past}
use Rattle.choice.proofs.PassingLaws.{slot_in}

-- ---- a slot sees a row

-- of rows that are alike the one before stays, as in the rules
better_hand_lem : (new old : Hand) (r b : Row) → old.at < new.at → new.upto ≡ r.up_to → old.upto ≡ b.up_to → new.from ≡ r.from → old.from ≡ b.from
    → better_hand new old ≡ better r b
unfolding better_hand limit_of
better_hand_lem new old r b l u v f g =
    let k : old.at ≤ new.at = omega arith in
    rw (le-ltb new.at old.at k, and_false (eqb new.from old.from), or_false (ltb old.from new.from), u, v, f, g)

module _ {w : List ℕ} {new : Hand} {r : Row} (n : Holds w new r) where
  hand_counts : {old : Hand} {o : Option Row} → old.at < new.at → HandIs w old o → HandIs w (hand_after true old new) (in_hand o r)
  unfolding hand_after
  hand_counts {old} l (NoRow z) = rw z (OneRow r n)
  hand_counts {old} l (OneRow b h) =
      rw (ne_eqb old.at 0 (λ e. omega (arith, h.there.low)), better_hand_lem new old r b l n.upto h.upto n.from h.from)
      (go (better r b))
    where
      go : (t : Bool) → HandIs w (cond t new old) (some (cond t r b))
      go true = OneRow r n
      go false = OneRow b h

  hand_is : (counts : Bool) {old : Hand} {o : Option Row} → old.at < new.at → HandIs w old o → HandIs w (hand_after counts old new) (Choice.hand_if counts o r)
  hand_is true l h = hand_counts l h
  hand_is false l h = unfold hand_after in h

-- the rows in hand stand before `at`
pub record Before (at : ℕ) (s : Seen) : Type 0 where
  pub asked : s.asked.at < at
  pub other : s.other.at < at

hand_before : (counts : Bool) (old new : Hand) {end : ℕ} → old.at < end → new.at < end → (hand_after counts old new).at < end
unfolding hand_after
hand_before false old new l m = l
hand_before true old new {end} l m = go (is_empty old) (better_hand new old)
  where
    go : (x y : Bool) → (cond x new (cond y new old)).at < end
    go true y = m
    go false true = m
    go false false = l

module _ (q : Question) {at : ℕ} (r : Row) {s : Seen} (b : Before at s) where
  seen_row : {w : List ℕ} {state : Choice.Seen} → RowThere w at r → SeenIs w s state
      → SeenIs w (seen_after s (standing q at r)) (Choice.see q.date q.quantity q.currency state r)
  unfolding seen_after
  seen_row {w} there p =
      let holds : Holds w (record { at = at; upto = r.up_to; from = r.from; rounding = r.rounding }) r =
      record { there = there; upto = refl; from = refl; rounding = refl } in
      record {
        met = ap (λ b. b || (Choice.stands q.date r && Choice.is_asked q.currency r)) p.met;
        asked = hand_is holds _ b.asked p.asked;
        other = hand_is holds _ b.other p.other;
      }

  seen_before : {end : ℕ} → at < end → Before end (seen_after s (standing q at r))
  unfolding seen_after
  seen_before h = record {
    asked = hand_before _ s.asked _ (omega (arith, b.asked)) h;
    other = hand_before _ s.other _ (omega (arith, b.other)) h;
  }

-- ---- a slot, and the rows that are left

-- it saw rows before `at`; once it has seen those that are left, the slot will have seen all
pub record Sees (w : List ℕ) (at : ℕ) (q : Question) (level place : ℕ) (slot : Seen) (left all : List Row) : Type 0 where
  pub state : Choice.Seen
  pub before : Before at slot
  pub is : SeenIs w slot state
  pub rest : Choice.walk q.date q.quantity q.currency state (keep (in_slot q level place) left) ≡ seen_of q all level place

-- what a row that goes by leaves in a slot that is not its own, and in its own
module _ (i : ℕ) (s : Seen) (p : Going) where
  pub after_none : (p.slot ≡ i → ⊥) → slot_after i s p ≡ s
  unfolding slot_after
  after_none n = rw (ne_eqb p.slot i n)

  pub after_own : p.slot ≡ i → slot_after i s p ≡ seen_after s p
  unfolding slot_after
  after_own e = rw (eq-eqb p.slot i e)

module _ {w : List ℕ} {at end : ℕ} (more : at < end) {q : Question} {level place : ℕ} {all : List Row} {slot : Seen} where
  -- a record that is no row
  sees_on : {left : List Row} → Sees w at q level place slot left all → Sees w end q level place slot left all
  sees_on s = record {
    state = s.state;
    before = record { asked = omega (arith, s.before.asked); other = omega (arith, s.before.other) };
    is = s.is;
    rest = s.rest;
  }

  module _ {r : Row} {left : List Row} (s : Sees w at q level place slot (r ∷ left) all) where
    abbrev seeing : Choice.Seen → List Row → Choice.Seen
    seeing = Choice.walk q.date q.quantity q.currency

    -- a row that is not of this slot
    sees_past : in_slot q level place r ≡ false → Sees w end q level place slot left all
    sees_past t = sees_on (record {
      state = s.state;
      before = s.before;
      is = s.is;
      rest = sym (ap (λ b. seeing s.state (cons_if b r (keep (in_slot q level place) left))) t) ∙ s.rest;
    })

    -- one that does not count that day
    sees_still : Choice.stands q.date r ≡ false → Sees w end q level place slot left all
    sees_still t = sees_on (record { state = s.state; before = s.before; is = s.is; rest = go (in_slot q level place r) s.rest })
      where
        still : Choice.see q.date q.quantity q.currency s.state r ≡ s.state
        still = λ i. record {
          seen = (ap (λ (b : Bool). s.state.seen || (b && Choice.is_asked q.currency r)) t ∙ or_false s.state.seen) i;
          asked = Choice.hand_if (t i && Choice.is_asked q.currency r && reaches q.quantity r) s.state.asked r;
          other = Choice.hand_if (t i && reaches q.quantity r) s.state.other r;
        }

        go : (b : Bool) → seeing s.state (cons_if b r (keep (in_slot q level place) left)) ≡ seen_of q all level place → seeing s.state (keep (in_slot q level place) left) ≡ seen_of q all level place
        go true e = ap (λ (x : Choice.Seen). seeing x (keep (in_slot q level place) left)) (sym still) ∙ e
        go false e = e

    -- a row of this slot
    sees_row : RowThere w at r → in_slot q level place r ≡ true → Sees w end q level place (seen_after slot (standing q at r)) left all
    sees_row there t = record {
      state = Choice.see q.date q.quantity q.currency s.state r;
      before = seen_before q r s.before more;
      is = seen_row q r s.before there s.is;
      rest = sym (ap (λ b. seeing s.state (cons_if b r (keep (in_slot q level place) left))) t) ∙ s.rest;
    }

-- any record goes by
module _ {w : List ℕ} {q : Question} {at end : ℕ} (more : at < end) {o : Option Record} (there : (r : Row) → o ≡ some (PriceRecord r) → RowThere w at r)
    (rs : List Record) {all : List Row} {level place : ℕ} (l : level < 3) (m : place < 33) {s : Seen} where
  sees_record : Sees w at q level place s (rows (cons_some o rs)) all → Sees w end q level place (slot_after (level * 33 + place) s (passing_in q at o)) (rows rs) all
  unfolding passing_in passing_of
  sees_record = go o refl
    where
      Left : List Row → Type 0
      Left xs = Sees w at q level place s xs all

      Done : Going → Type 0
      Done p = Sees w end q level place (slot_after (level * 33 + place) s p) (rows rs) all

      same : (p : Going) → (p.slot ≡ level * 33 + place → ⊥) → Sees w end q level place s (rows rs) all → Done p
      same p n x = rw (after_none (level * 33 + place) s p n) x

      skip : Sees w end q level place s (rows rs) all → Done uncounted
      skip x = same uncounted (λ e. omega arith) x

      -- a row that counts that day is of this slot, or of another
      counted : (r : Row) → RowThere w at r → is_own q r ≡ true → (b : Bool) → eqb (slot_of q r) (level * 33 + place) ≡ b → Left (r ∷ rows rs) → Done (standing q at r)
      counted r t a true h x =
          rw (after_own (level * 33 + place) s (standing q at r) (eqb-true (slot_of q r) (level * 33 + place) h)) (sees_row more x t (slot_in q r level place l m ∙ rw (a, h)))
      counted r t a false h x = same (standing q at r) (eqb-false (slot_of q r) (level * 33 + place) h) (sees_past more x (slot_in q r level place l m ∙ rw (a, h)))

      -- a row of the asked article and sort counts that day, or does not
      own : (r : Row) → RowThere w at r → is_own q r ≡ true → (b : Bool) → Choice.stands q.date r ≡ b → Left (r ∷ rows rs) → Done (cond b (standing q at r) uncounted)
      own r t a true h x = counted r t a (eqb (slot_of q r) (level * 33 + place)) refl x
      own r t a false h x = skip (sees_still more x h)

      priced : (r : Row) → RowThere w at r → (b : Bool) → is_own q r ≡ b → Left (r ∷ rows rs) → Done (cond b (passing_of q at r) uncounted)
      priced r t true a x = own r t a (Choice.stands q.date r) refl x
      priced r t false a x = skip (sees_past more x (slot_in q r level place l m ∙ rw a))

      read : (x : Record) → o ≡ some x → (y : Option Row) → as_row x ≡ y → Left (cons_some y (rows rs))
          → Done (if_some y uncounted (λ r. cond (is_own q r) (passing_of q at r) uncounted))
      read x e none f y = skip (sees_on more y)
      read x e (some r) f y = priced r (there r (e ∙ ap some (read_only row_kind x r f))) (is_own q r) refl y

      go : (x : Option Record) → o ≡ x → Left (rows (cons_some x rs)) → Done (passing_in q at x)
      go none e y = skip (sees_on more y)
      go (some x) e y = read x e (as_row x) refl y

-- ---- a record goes by in all slots at once

pub took_none : (slots : List Seen) → TookIn slots uncounted slots
took_none slots = record { long = refl; of = λ i l. sym (after_none i (get_or slots i unseen) uncounted (λ e. omega arith)) }

pub took_one : {slots : List Seen} {p : Passing} {new : Seen} → length slots ≡ 99 → p.slot < 99 → SeenAfter (get_or slots p.slot unseen) (counted p) new
    → TookIn slots (counted p) (set slots p.slot new)
took_one {slots} {p} {new} long low after = record { long = length-set slots p.slot new; of = λ i l. go i (ℕ_discrete p.slot i) }
  where
    go : (i : ℕ) → Dec (p.slot ≡ i) → get_or (set slots p.slot new) i unseen ≡ slot_after i (get_or slots i unseen) (counted p)
    go i (yes e) =
        let here : p.slot < length slots = omega (arith, long) in
        rw (← e) (get_or-set_same slots p.slot new unseen here ∙ after.is ∙ sym (after_own p.slot (get_or slots p.slot unseen) (counted p) refl))
    go i (no n) = get_or-set_other slots p.slot i new unseen (λ e. n (sym e)) ∙ sym (after_none i (get_or slots i unseen) (counted p) n)

module _ {i : ℕ} (l : i < no_slot) where
  -- one of no slot leaves this one as it is
  pub after_off : (s : Seen) (p : Going) → p.slot ≡ no_slot → slot_after i s p ≡ s
  after_off s p e = after_none i s p (λ f. omega arith)

  pub after_alike : (s : Seen) {p r : Going} → Alike p r → slot_after i s p ≡ slot_after i s r
  after_alike s (Same e) = ap (slot_after i s) e
  after_alike s {p} {r} (Unread e f) = after_off s p e ∙ sym (after_off s r f)

-- ---- the walk, for all questions of some kind

-- once the records from `at` on have gone by, the slots, with the listed records behind them, will have seen all from `from` on
pub record Sharing (w : List ℕ) (from : ℕ) (Kind : Question → Type 0) (slots : List Seen) (listed : List ℕ) (at : ℕ) : Type 0 where
  pub sees : (q : Question) → Kind q → (level place : ℕ) → level < 3 → place < 33
      → Sees w at q level place (slot_past w q (level * 33 + place) (get_or slots (level * 33 + place) unseen) listed) (rows (records_left w at)) (rows (records_left w from))

module _ (w : List ℕ) (from : ℕ) (Kind : Question → Type 0) where
  pub share_start : 5 ≤ from → Sharing w from Kind (replicate 99 unseen) [] from
  unfolding seen_of slot_past
  share_start b = record {
    sees = λ q a level place l p.
        let k : level * 33 + place < 99 = omega arith in
        rw (get_or-replicate 99 (level * 33 + place) unseen unseen k)
        (record {
          state = Choice.start;
          before = record { asked = omega arith; other = omega arith };
          is = record { met = refl; asked = NoRow refl; other = NoRow refl };
          rest = refl;
        });
  }

  module _ {slots : List Seen} {listed : List ℕ} {at : ℕ} (between : Between w at) (inv : Sharing w from Kind slots listed at) where
    -- the slots and the list are now what the record at `at` makes of what they were
    pub share_turn : at < length w → {end : ℕ} → StopIs w at end → {slots' : List Seen} {listed' : List ℕ}
        → ((q : Question) → Kind q → (i : ℕ) → i < no_slot
        → slot_past w q i (get_or slots' i unseen) listed' ≡ slot_after i (slot_past w q i (get_or slots i unseen) listed) (passing_in q at (whole kinded (take (end - (at + 2)) (drop (at + 2) w)))))
        → Sharing w from Kind slots' listed' end
    share_turn h {end} stop step = record {
      sees = λ q a level place l m.
          let k : level * 33 + place < 99 = omega arith in
          rw (step q a (level * 33 + place) k)
          (sees_record (omega (arith, stop.low)) (λ r e. record {
            low = omega (arith, between.low);
            fits = subst (λ (k : ℕ). k ≤ length w) stop.is stop.fits;
            is = subst (λ (k : ℕ). whole kinded (take (k - (at + 2)) (drop (at + 2) w)) ≡ some (PriceRecord r)) stop.is e;
          }) (records_left w end) l m
          (subst (λ (rs : List Record). Sees w at q level place (slot_past w q (level * 33 + place) (get_or slots (level * 33 + place) unseen) listed) (rows rs) (rows (records_left w from)))
          (pass_record between h stop) (inv.sees q a level place l m)));
    }

    pub share_end : length w ≤ at → (q : Question) → Kind q → (level place : ℕ) → level < 3 → place < 33
        → SeenIs w (slot_past w q (level * 33 + place) (get_or slots (level * 33 + place) unseen) listed) (seen_of q (rows (records_left w from)) level place)
    share_end h q a level place l m =
        let s = inv.sees q a level place l m in
        subst (SeenIs w (slot_past w q (level * 33 + place) (get_or slots (level * 33 + place) unseen) listed))
        (sym (ap (λ (rs : List Record). Choice.walk q.date q.quantity q.currency s.state (keep (in_slot q level place) (rows rs))) (pass_end between h)) ∙ s.rest) s.is

-- ---- one day

-- so far the slots saw the records before `at`, for every question that asks so
pub record Walking (w : List ℕ) (from : ℕ) (article table : List ℕ) (terms : Terms) (slots : List Seen) (at : ℕ) : Type 0 where
  pub between : Between w at
  pub long : length slots ≡ 99
  pub share : Sharing w from (λ q. Asks q article table terms) slots [] at

module _ (w : List ℕ) (from : ℕ) (article table : List ℕ) (terms : Terms) where
  pub walk_start : Between w from → Walking w from article table terms (replicate 99 unseen) from
  walk_start b = record {
    between = b;
    long = length-replicate 99 unseen;
    share = share_start w from (λ q. Asks q article table terms) b.low;
  }

  module _ {slots : List Seen} {at : ℕ} (inv : Walking w from article table terms slots at) where
    pub walk_here : at < length w → RecordHere w at
    walk_here h = pass_here inv.between h

    pub walk_turn : at < length w → {end : ℕ} → StopIs w at end
        → {p : Std.Option Passing} → Passes article table terms at (whole kinded (take (end - (at + 2)) (drop (at + 2) w))) p
        → {slots' : List Seen} → TookIn slots (going p) slots' → Walking w from article table terms slots' end
    unfolding slot_past
    walk_turn h {end} stop {p} pass {slots'} took = record {
      between = pass_next inv.between h stop;
      long = took.long ∙ inv.long;
      share = share_turn w from (λ q. Asks q article table terms) inv.between inv.share h stop
          (λ q a i l. took.of i l ∙ after_alike l (get_or slots i unseen) (pass.of q a));
    }

    pub walk_end : length w ≤ at → SlotsFor w (rows (records_left w from)) article table terms slots
    unfolding slot_past
    walk_end h = record { of = λ q a. record { long = inv.long; each = share_end w from (λ q. Asks q article table terms) inv.between inv.share h q a } }
