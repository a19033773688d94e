-- A slot's state as the code keeps it, and the rows of the definition that it stands for.
use Rattle.std.specs.Prelude.{ℕ, ◌+◌, ◌^◌, ◌≤◌, ◌≡◌, Bool, true, ◌&&◌, ◌||◌, cond, List, eqb, ltb, length}
use Rattle.std.proofs.Math.Option.{Option, some, none}
use Rattle.rules.specs.Layout.{whole}
use Rattle.rules.specs.Book.{Row, PriceRecord}
use Rattle.rules.specs.BookLayout.{kinded}
use Rattle.rules.specs.declared.PriceRow.{PriceRow}
use Rattle.rules.proofs.ChoiceLaws as Choice
use Rattle.layout.specs.Reads.{part}
use Rattle.layout.specs.Records.{record_stop}
use Rattle.records.specs.Ensures.{row_in, RowIs}
use Rattle.choice.specs.declared.hands.Hand.{Hand}
use Rattle.choice.specs.declared.hands.Seen.{Seen}
use Rattle.choice.specs.declared.hands.Passing.{Passing}

-- ---- a record that goes by

-- what it is to a question: the slot that it is of; whether it counts that day, is in the asked currency, and reaches the quantity
pub record Going : Type 0 where
  pub slot : ℕ
  pub stands : Bool
  pub asked : Bool
  pub reaches : Bool
  pub hand : Hand

-- a row that counts
abbrev pub counted : Passing → Going
counted p = record { slot = p.slot; stands = true; asked = p.asked; reaches = p.reaches; hand = p.hand }

-- ---- what the functions compute

-- no row is in hand
abbrev pub is_empty : Hand → Bool
is_empty h = eqb h.at 0

unfoldable pub limit_of : ℕ → ℕ
limit_of upto = cond (eqb upto 0) (2 ^ 32) upto

-- as the rules have it; and of two rows that are alike in this, the one that stands first in the book
unfoldable pub better_hand : Hand → Hand → Bool
better_hand new old =
    ltb (limit_of new.upto) (limit_of old.upto)
    || (eqb (limit_of new.upto) (limit_of old.upto) && (ltb old.from new.from || (eqb new.from old.from && ltb new.at old.at)))

unfoldable pub hand_after : Bool → Hand → Hand → Hand
hand_after counts old new = cond counts (cond (is_empty old) new (cond (better_hand new old) new old)) old

unfoldable pub seen_after : Seen → Going → Seen
seen_after s p =
    record {
      met = s.met || (p.stands && p.asked);
      asked = hand_after (p.stands && p.asked && p.reaches) s.asked p.hand;
      other = hand_after (p.stands && p.reaches) s.other p.hand;
    }

unfoldable pub taken_of : Seen → Hand
taken_of s = cond s.met s.asked s.other

-- `r` is the row in hand after another one that counts, or does not, has gone by
pub record HandAfter (counts : Bool) (old new r : Hand) : Type 0 where
  pub is : r ≡ hand_after counts old new

-- `r` is what a slot keeps after a row has gone by
pub record SeenAfter (s : Seen) (p : Going) (r : Seen) : Type 0 where
  pub is : r ≡ seen_after s p

-- `r` is the row that a slot takes in the end
pub record TakenIs (s : Seen) (r : Hand) : Type 0 where
  pub is : r ≡ taken_of s

-- ---- what it means

-- the record of w that stands at `at` is the price row r
pub record RowThere (w : List ℕ) (at : ℕ) (r : Row) : Type 0 where
  pub low : 1 ≤ at
  pub fits : record_stop w at ≤ length w
  pub is : whole kinded (part w (at + 2) (record_stop w at)) ≡ some (PriceRecord r)

-- some price row stands there
pub record RowStands (w : List ℕ) (at : ℕ) : Type 0 where
  pub row : Row
  pub there : RowThere w at row

-- `r` is read from the bytes of the row there
pub record RowRead (w : List ℕ) (at : ℕ) (r : PriceRow) : Type 0 where
  pub body : List ℕ
  pub is : RowIs body r
  pub of : (x : Row) → RowThere w at x → row_in body r ≡ x

-- the hand holds the row r, which stands in w
pub record Holds (w : List ℕ) (h : Hand) (r : Row) : Type 0 where
  pub there : RowThere w h.at r
  pub upto : h.upto ≡ r.up_to
  pub from : h.from ≡ r.from
  pub rounding : h.rounding ≡ r.rounding

pub data HandIs (w : List ℕ) (h : Hand) : Option Row → Type 0 where
  NoRow : is_empty h ≡ true → HandIs w h none
  OneRow : (r : Row) → Holds w h r → HandIs w h (some r)

pub record SeenIs (w : List ℕ) (s : Seen) (state : Choice.Seen) : Type 0 where
  pub met : s.met ≡ state.seen
  pub asked : HandIs w s.asked state.asked
  pub other : HandIs w s.other state.other
