-- What a record that goes by is to the questions that ask so, and what the walk over the records leaves in the slots.
use Rattle.std.specs.Prelude as Std
use Rattle.std.specs.Prelude.{ℕ, ◌+◌, ◌*◌, ◌/◌, ◌%◌, ◌<◌, ◌≡◌, Bool, false, not, ◌&&◌, ◌||◌, cond, List, eqb, ltb, leb, length, get_or, Some, None, IfSome, unwrap_or}
use Rattle.std.proofs.Math.Option.{Option, some, none}
use Rattle.rules.specs.Lists.{same, keep, if_some, between}
use Rattle.rules.specs.Days.{is_day}
use Rattle.rules.specs.Book.{Row, Record, as_row, base, letter_of}
use Rattle.rules.specs.Question.{Question, asked_of, letters_of}
use Rattle.rules.specs.Choice.{is_percent, reaches}
use Rattle.rules.specs.declared.PriceRow.{PriceRow}
use Rattle.rules.proofs.ChoiceLaws as Choice
use Rattle.grants.specs.declared.terms.Terms.{Terms}
use Rattle.grants.specs.Places.{nowhere, place_of}
use Rattle.grants.specs.Asks.{Asks}
use Rattle.choice.specs.declared.hands.Hand.{Hand}
use Rattle.choice.specs.declared.hands.Seen.{Seen}
use Rattle.choice.specs.declared.hands.Passing.{Passing}
use Rattle.choice.specs.Slots.{no_level, level_of, in_slot, placed_row, slot_chosen}
use Rattle.choice.specs.Hands.{Going, counted, SeenIs}

-- ---- a record that goes by

-- one past the last slot
abbrev pub no_slot : ℕ
no_slot = 99

-- the slot of a level and a place
unfoldable pub slot_at : ℕ → ℕ → ℕ
slot_at level place = cond (ltb level no_level && ltb place nowhere) (level * 33 + place) no_slot

-- that of a row of the asked article and sort
unfoldable pub slot_of : Question → Row → ℕ
slot_of q r = slot_at (level_of r.level) (place_of q.granted r.condition)

-- what one is that counts that day
abbrev pub standing : Question → ℕ → Row → Going
standing q at r = record {
  slot = slot_of q r;
  stands = Choice.stands q.date r;
  asked = Choice.is_asked q.currency r;
  reaches = reaches q.quantity r;
  hand = record { at = at; upto = r.up_to; from = r.from; rounding = r.rounding };
}

-- no row in hand
abbrev pub no_hand : Hand
no_hand = record { at = 0; upto = 0; from = 0; rounding = 0 }

-- what any other record is
abbrev pub uncounted : Going
uncounted = record { slot = no_slot; stands = false; asked = false; reaches = false; hand = no_hand }

-- a row of the asked article and sort on another day is like one of another article
unfoldable pub passing_of : Question → ℕ → Row → Going
passing_of q at r = cond (Choice.stands q.date r) (standing q at r) uncounted

-- the row is of the asked article and sort
abbrev pub is_own : Question → Row → Bool
is_own q r = same r.article q.article && eqb r.sort q.sort

-- what any record is
unfoldable pub passing_in : Question → ℕ → Option Record → Going
passing_in q at none = uncounted
passing_in q at (some x) = if_some (as_row x) uncounted λ r. cond (is_own q r) (passing_of q at r) uncounted

-- a row in this currency is in the asked one
abbrev pub in_asked : Option (List ℕ) → List ℕ → Bool
in_asked none c = false
in_asked (some d) c = same c d

-- two that go by leave the same in every slot
pub data Alike (p r : Going) : Type 0 where
  Same : p ≡ r → Alike p r
  Unread : p.slot ≡ no_slot → r.slot ≡ no_slot → Alike p r

-- ---- as the code has it: a row that counts and has a slot, or nothing

abbrev pub going : Std.Option Passing → Going
going None = uncounted
going (Some p) = counted p

abbrev pub InSlot : Std.Option Passing → Type 0
InSlot p = IfSome p (λ x. x.slot < no_slot)

-- `r` is this slot, or none for the one past the last
pub record SlotAt (slot : ℕ) (r : Std.Option ℕ) : Type 0 where
  pub below : IfSome r (λ i. i < no_slot)
  pub is : unwrap_or r no_slot ≡ slot

-- `i` is the slot of the row r, for every question that asks by these terms and this table
pub record SlotIs (table : List ℕ) (terms : Terms) (r : Row) (i : Std.Option ℕ) : Type 0 where
  pub below : IfSome i (λ s. s < no_slot)
  pub of : {article : List ℕ} (q : Question) → Asks q article table terms → unwrap_or i no_slot ≡ slot_of q r

-- the fields of a row say that it counts on day d
abbrev pub row_stands : ℕ → PriceRow → Bool
row_stands d row = not (eqb (letter_of row.level) base && is_percent row.value) && (is_day row.from && (is_day row.to && between row.from row.to d))

-- `p` is the row as one of slot i, to who asks by these terms; its record stands at `at`
pub record PlacedIs (terms : Terms) (at i : ℕ) (row : PriceRow) (p : Passing) : Type 0 where
  pub slot : p.slot ≡ i
  pub asked : p.asked ≡ in_asked (asked_of (letters_of terms.currency)) (letters_of row.currency)
  pub reaches : p.reaches ≡ (eqb row.upto 0 || leb terms.quantity row.upto)
  pub hand : p.hand ≡ record { at = at; upto = row.upto; from = row.from; rounding = row.rounding }

-- `p` is what the row r is to it, if it asks for the row's article and sort; the row's record stands at `at`
pub record RowPasses (table : List ℕ) (terms : Terms) (at : ℕ) (r : Row) (p : Std.Option Passing) : Type 0 where
  pub below : InSlot p
  pub of : {article : List ℕ} (q : Question) → Asks q article table terms → Alike (going p) (passing_of q at r)

-- and what any record is to one that asks for this article
pub record Passes (article table : List ℕ) (terms : Terms) (at : ℕ) (o : Option Record) (p : Std.Option Passing) : Type 0 where
  pub below : InSlot p
  pub of : (q : Question) → Asks q article table terms → Alike (going p) (passing_in q at o)

-- ---- the walk

-- a slot that saw nothing
abbrev pub unseen : Seen
unseen = record { met = false; asked = no_hand; other = no_hand }

-- what the definition's walk sees of the rows of a slot
unfoldable pub seen_of : Question → List Row → ℕ → ℕ → Choice.Seen
seen_of q rs level place = Choice.walk q.date q.quantity q.currency Choice.start (keep (in_slot q level place) rs)

-- of these rows slot i chooses r
pub record Chooses (q : Question) (rs : List Row) (i : ℕ) (r : Row) : Type 0 where
  pub is : slot_chosen rs q (i / 33) (i % 33) ≡ some (placed_row q (i % 33) r)

-- the slots hold what the question sees of these rows; the rows in hand stand in w
pub record SlotsHold (w : List ℕ) (rs : List Row) (q : Question) (slots : List Seen) : Type 0 where
  pub long : length slots ≡ no_slot
  pub each : (level place : ℕ) → level < 3 → place < 33 → SeenIs w (get_or slots (level * 33 + place) unseen) (seen_of q rs level place)

-- and so they do for every question that asks so
pub record SlotsFor (w : List ℕ) (rs : List Row) (article table : List ℕ) (terms : Terms) (slots : List Seen) : Type 0 where
  pub of : (q : Question) → Asks q article table terms → SlotsHold w rs q slots
