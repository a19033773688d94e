-- What the slots hold after the walk is what the definition chooses, slot by slot.
use Prim.Native.Nat.{ℕ, ◌+◌, ◌-◌, ◌*◌, ◌/◌, ◌%◌, ◌<◌}
use mathlib.Core.Path.{◌≡◌, refl, sym, ◌∙◌, ap, subst}
use mathlib.Core.Bool.{Bool, true, false, cond, false≢true}
use mathlib.Core.List.{List}
use mathlib.Core.Option.{Option, some, none, map}
use native.Mathlib.Omega.{arith}
use lib.ListN.{take, drop, get_or}
use borrow.Author.Tests.{eqb-true}
use Rattle.rules.specs.Lists.{is_some, keep}
use Rattle.rules.specs.Layout.{whole}
use Rattle.rules.specs.Book.{Row, PriceRecord}
use Rattle.rules.specs.BookLayout.{kinded}
use Rattle.rules.specs.Question.{Question}
use Rattle.rules.specs.Choice.{choose}
use Rattle.rules.specs.Lines.{Chosen}
use Rattle.rules.specs.declared.PriceRow.{PriceRow}
use Rattle.rules.proofs.ChoiceLaws as Choice
use Rattle.layout.specs.Records.{RecordHere, StopIs}
use Rattle.records.specs.Asks.{OfKind}
use Rattle.records.specs.Ensures.{row_in, RowIs}
use Rattle.records.proofs.FieldLaws.{kind_byte}
use Rattle.choice.specs.declared.hands.Hand.{Hand}
use Rattle.choice.specs.declared.hands.Seen.{Seen}
use Rattle.choice.specs.Slots.{in_slot, placed_row, slot_chosen}
use Rattle.choice.specs.Hands.{is_empty, taken_of, TakenIs, RowThere, Holds, HandIs, NoRow, OneRow, SeenIs, RowStands}
use Rattle.choice.specs.Walk.{unseen, seen_of, Chooses, SlotsHold}
use Rattle.choice.proofs.PassingLaws.{same_row}

-- ---- a slot's hand

pub seen_taken : {w : List ℕ} {s : Seen} {state : Choice.Seen} → SeenIs w s state → HandIs w (taken_of s) (Choice.taken state)
unfolding taken_of
seen_taken {w} {s} {state} p = rw p.met (go state.seen)
  where
    go : (b : Bool) → HandIs w (cond b s.asked s.other) (cond b state.asked state.other)
    go true = p.asked
    go false = p.other

module _ {w : List ℕ} {rs : List Row} {q : Question} {slots : List Seen} (holds : SlotsHold w rs q slots) where
  -- slot i holds what the five steps choose of its rows
  pub slot_hand : (i : ℕ) → i < 99 → HandIs w (taken_of (get_or slots i unseen)) (choose q.date q.quantity q.currency (keep (in_slot q (i / 33) (i % 33)) rs))
  unfolding seen_of
  slot_hand i h =
      let d : i ≡ i / 33 * 33 + i % 33 = omega arith in
      let l : i / 33 < 3 = omega arith in
      let m : i % 33 < 33 = omega arith in
      subst (HandIs w (taken_of (get_or slots i unseen))) (Choice.one_walk q.date q.quantity q.currency (keep (in_slot q (i / 33) (i % 33)) rs))
      (subst (λ (k : ℕ). HandIs w (taken_of (get_or slots k unseen)) (Choice.taken (seen_of q rs (i / 33) (i % 33)))) (sym d) (seen_taken (holds.each (i / 33) (i % 33) l m)))

  module _ {i : ℕ} (h : i < 99) {hand : Hand} (t : TakenIs (get_or slots i unseen) hand) where
    here : HandIs w hand (choose q.date q.quantity q.currency (keep (in_slot q (i / 33) (i % 33)) rs))
    here = rw t.is (slot_hand i h)

    -- no row in hand: the slot chooses none
    pub slot_empty : is_empty hand ≡ true → slot_chosen rs q (i / 33) (i % 33) ≡ none
    unfolding slot_chosen
    slot_empty z = go here
      where
        go : {o : Option Row} → HandIs w hand o → map {B = Chosen} (placed_row q (i % 33)) o ≡ none
        go (NoRow e) = refl
        go (OneRow b h) = absurd (omega (arith, eqb-true hand.at 0 z, h.there.low))

    -- a row in hand: it is the slot's, and stands in the book
    pub slot_full : is_empty hand ≡ false → (x : Row) × Holds w hand x × Chooses q rs i x
    unfolding slot_chosen
    slot_full n = go here refl
      where
        go : {o : Option Row} → HandIs w hand o → choose q.date q.quantity q.currency (keep (in_slot q (i / 33) (i % 33)) rs) ≡ o
            → (x : Row) × Holds w hand x × Chooses q rs i x
        go (NoRow z) e = absurd (false≢true (sym n ∙ z))
        go (OneRow b h) e = (b, h, record { is = ap (map (placed_row q (i % 33))) e })

-- ---- the row in hand can be read

module _ {w : List ℕ} {at : ℕ} {r : Row} (there : RowThere w at r) where
  there_here : RecordHere w at
  there_here = record { fits = there.fits; ok = ap is_some there.is }

  -- and there is one
  pub there_same : {x : Row} → RowThere w at x → r ≡ x
  there_same also = same_row (sym there.is ∙ also.is)

  -- between the body's first byte and the record's end
  module _ {end : ℕ} (stop : StopIs w at end) where
    body : whole kinded (take (end - (at + 2)) (drop (at + 2) w)) ≡ some (PriceRecord r)
    body = subst (λ (k : ℕ). whole kinded (take (k - (at + 2)) (drop (at + 2) w)) ≡ some (PriceRecord r)) (sym stop.is) there.is

    there_kind : OfKind 2 (take (end - (at + 2)) (drop (at + 2) w))
    there_kind = record { kind = kind_byte (take (end - (at + 2)) (drop (at + 2) w)) (PriceRecord r) body; ok = ap is_some body }

    there_row : (row : PriceRow) → RowIs (take (end - (at + 2)) (drop (at + 2) w)) row → row_in (take (end - (at + 2)) (drop (at + 2) w)) row ≡ r
    there_row row p = same_row (sym p.is ∙ body)

module _ {w : List ℕ} {at : ℕ} (stands : RowStands w at) where
  module _ {end : ℕ} (stop : StopIs w at end) where
    pub stands_kind : OfKind 2 (take (end - (at + 2)) (drop (at + 2) w))
    stands_kind = there_kind stands.there stop
