-- Days in a row that are asked about one after the other: the rows that are the same to each of them, and those that are noted.
use Rattle.std.specs.Prelude.{ℕ, ◌+◌, ◌*◌, ◌≤◌, ◌<◌, ◌≡◌, Bool, true, false, cond, List, [], ◌∷◌, ◌++◌, eqb, length, take, get_or}
use Rattle.std.proofs.Math.Option.{Option}
use Rattle.rules.specs.Layout.{whole}
use Rattle.rules.specs.Book.{Row, Record, rows}
use Rattle.rules.specs.BookLayout.{kinded}
use Rattle.rules.specs.Question.{Question}
use Rattle.layout.specs.Reads.{part}
use Rattle.layout.specs.Records.{record_stop, records_left, RecordHere}
use Rattle.grants.specs.declared.terms.Terms.{Terms}
use Rattle.grants.specs.Asks.{Asks, terms_on}
use Rattle.choice.specs.declared.hands.Seen.{Seen}
use Rattle.choice.specs.declared.block.Through.{Through}
use Rattle.choice.specs.declared.block.Through.TheVariants.{Never, Always, Sometimes}
use Rattle.choice.specs.declared.noted.Noted.{Noted}
use Rattle.choice.specs.declared.Shared.{Shared}
use Rattle.choice.specs.Hands.{Going, counted, seen_after, SeenIs}
use Rattle.choice.specs.Walk.{no_slot, Alike, passing_of, passing_in, uncounted, unseen, seen_of}

-- ---- the days of a block

-- q asks by these terms, but on a day between theirs and the last
pub record AsksWithin (q : Question) (article table : List ℕ) (terms : Terms) (last : ℕ) : Type 0 where
  pub day : ℕ
  pub low : terms.date.0 ≤ day
  pub high : day ≤ last
  pub asks : Asks q article table (terms_on terms day)

-- what a record is on each day; one that is noted is nothing by itself
abbrev pub passing_through : Through → Going
passing_through Never = uncounted
passing_through (Always p) = counted p
passing_through Sometimes = uncounted

abbrev pub is_noted : Through → Bool
is_noted Never = false
is_noted (Always p) = false
is_noted Sometimes = true

abbrev pub InSlotThrough : Through → Type 0
InSlotThrough Never = Unit {0}
InSlotThrough (Always p) = p.slot < no_slot
InSlotThrough Sometimes = Unit {0}

-- a row of the asked article and sort is the same on each day of the block, or is noted
pub record RowThrough (table : List ℕ) (terms : Terms) (last at : ℕ) (r : Row) (x : Through) : Type 0 where
  pub below : InSlotThrough x
  pub steady : is_noted x ≡ false → {article : List ℕ} (q : Question) → AsksWithin q article table terms last → Alike (passing_through x) (passing_of q at r)

-- and so is any record
pub record PassesThrough (article table : List ℕ) (terms : Terms) (last at : ℕ) (o : Option Record) (x : Through) : Type 0 where
  pub below : InSlotThrough x
  pub steady : is_noted x ≡ false → (q : Question) → AsksWithin q article table terms last → Alike (passing_through x) (passing_in q at o)

-- ---- the rows that are noted

abbrev pub most_noted : ℕ
most_noted = 2048

-- what is noted once the record at `at` has gone by, which is to be noted or not; more than fit say no rows
pub record NotedAfter (old : Noted) (counts : Bool) (at : ℕ) (new : Noted) : Type 0 where
  pub long : length new.rows ≡ length old.rows
  pub few : new.n ≤ most_noted → old.n ≤ most_noted
  pub is : new.n ≤ most_noted → take new.n new.rows ≡ cond counts (take old.n old.rows ++ (at ∷ [])) (take old.n old.rows)

-- at each of these positions stands a record
pub record AllStand (w ats : List ℕ) : Type 0 where
  pub here : (k : ℕ) → k < length ats → RecordHere w (get_or ats k 0)

-- ---- the slots of a day

-- what slot i keeps after a row has gone by
unfoldable pub slot_after : ℕ → Seen → Going → Seen
slot_after i s p = cond (eqb p.slot i) (seen_after s p) s

-- `r` are the slots after it has gone by
pub record TookIn (slots : List Seen) (p : Going) (r : List Seen) : Type 0 where
  pub long : length r ≡ length slots
  pub of : (i : ℕ) → i < no_slot → get_or r i unseen ≡ slot_after i (get_or slots i unseen) p

-- and what is shared after the record at `at` has gone by
pub record TookThrough (old : Shared) (at : ℕ) (x : Through) (new : Shared) : Type 0 where
  pub slots : TookIn old.slots (passing_through x) new.slots
  pub noted : NotedAfter old.noted (is_noted x) at new.noted

-- the record that stands at `at` is this to a question
unfoldable pub passing_at : List ℕ → Question → ℕ → Going
passing_at w q at = passing_in q at (whole kinded (part w (at + 2) (record_stop w at)))

-- what slot i keeps after these records have gone by
unfoldable pub slot_past : List ℕ → Question → ℕ → Seen → List ℕ → Seen
slot_past w q i s [] = s
slot_past w q i s (at ∷ ats) = slot_past w q i (slot_after i s (passing_at w q at)) ats

-- `r` are the slots after these records
pub record SlotsAfter (w : List ℕ) (slots : List Seen) (ats article table : List ℕ) (terms : Terms) (r : List Seen) : Type 0 where
  pub long : length r ≡ no_slot
  pub of : (q : Question) → Asks q article table terms → (i : ℕ) → i < no_slot → get_or r i unseen ≡ slot_past w q i (get_or slots i unseen) ats

-- the rows that are noted
abbrev pub noted_in : Shared → List ℕ
noted_in shared = take shared.noted.n shared.noted.rows

-- with the noted rows, if they fit, the slots keep what is seen of all rows of w from `from` on
pub record SharedOn (w : List ℕ) (from : ℕ) (article table : List ℕ) (terms : Terms) (shared : Shared) : Type 0 where
  pub here : shared.noted.n ≤ most_noted → AllStand w (noted_in shared)
  pub of : shared.noted.n ≤ most_noted → (q : Question) → Asks q article table terms → (level place : ℕ) → level < 3 → place < 33
      → SeenIs w (slot_past w q (level * 33 + place) (get_or shared.slots (level * 33 + place) unseen) (noted_in shared)) (seen_of q (rows (records_left w from)) level place)

-- and so it is on each day of the block
pub record SharedFor (w : List ℕ) (from : ℕ) (article table : List ℕ) (terms : Terms) (last : ℕ) (shared : Shared) : Type 0 where
  pub on : (d : ℕ) → terms.date.0 ≤ d → d ≤ last → SharedOn w from article table (terms_on terms d) shared
