-- A walk over the window of an article and sort leaves in the slots what a walk over the book leaves, and one over the window of the roundings finds
-- what the book has.
use Prim.Native.Nat.{ℕ, ◌+◌, ◌-◌, ◌*◌, ◌≤◌}
use mathlib.Core.Path.{◌≡◌, refl, sym, ◌∙◌, ap, subst}
use mathlib.Core.Bool.{Bool, true, false, ◌&&◌}
use mathlib.Core.List.{List}
use mathlib.Core.Option.{Option}
use native.Mathlib.Omega.{arith}
use native.Mathlib.Decide.{ℕ_discrete}
use lib.Dec.{eqb}
use lib.ListN.{length, take, get_or}
use lib.Seq.{length-take-le}
use borrow.Author.Tests.{ne_eqb}
use Rattle.rules.specs.Lists.{same, keep}
use Rattle.rules.specs.Layout.{whole}
use Rattle.rules.specs.Bytes.{big}
use Rattle.rules.specs.Book.{Row, Record, rows, rows_of, rounding_for, plain}
use Rattle.rules.specs.BookLayout.{kinded}
use Rattle.rules.specs.Question.{Question}
use Rattle.rules.proofs.ChoiceLaws as Choice
use Rattle.rules.proofs.ListLaws.{keep_keep}
use Rattle.layout.specs.Reads.{part}
use Rattle.layout.specs.Records.{record_stop, records_left}
use Rattle.records.specs.Asks.{OfKind}
use Rattle.lookup.specs.Roundings.{rounding_held, spot_or, SpotHeld, SpotsFound}
use Rattle.choice.specs.declared.hands.Hand.{Hand}
use Rattle.choice.specs.declared.hands.Seen.{Seen}
use Rattle.grants.specs.Places as Grants
use Rattle.choice.specs.Slots.{level_of, in_slot}
use Rattle.choice.specs.Hands.{RowThere, HandIs, NoRow, OneRow, SeenIs}
use Rattle.choice.specs.Walk.{unseen, seen_of, SlotsHold}
use Rattle.survey.specs.declared.window.Window.{Window}
use Rattle.survey.specs.Window.{Windows}
use Rattle.survey.proofs.WindowLaws.{front}

-- ---- the front of a book

-- where a record in front ends, and what it holds
module _ (w : List ℕ) (n : ℕ) (fits : n ≤ length w) (at : ℕ) (h : record_stop (take n w) at ≤ length (take n w)) where
  stop_whole : record_stop (take n w) at ≡ record_stop w at
  stop_whole = ap (λ (bs : List ℕ). at + 2 + big bs) (front 2 at n w (omega (arith, h, length-take-le n w fits)))

  part_whole : part (take n w) (at + 2) (record_stop (take n w) at) ≡ part w (at + 2) (record_stop w at)
  part_whole =
      let k : record_stop (take n w) at ≤ n = omega (arith, length-take-le n w fits) in
      front (record_stop (take n w) at - (at + 2)) (at + 2) n w (omega arith) ∙ ap (λ (j : ℕ). part w (at + 2) j) stop_whole

module _ {w : List ℕ} {n : ℕ} (fits : n ≤ length w) where
  there_whole : {at : ℕ} {r : Row} → RowThere (take n w) at r → RowThere w at r
  there_whole {at} p = record {
    low = p.low;
    fits = omega (arith, p.fits, stop_whole w n fits at p.fits, length-take-le n w fits);
    is = sym (ap (whole kinded) (part_whole w n fits at p.fits)) ∙ p.is;
  }

  hand_whole : {h : Hand} {o : Option Row} → HandIs (take n w) h o → HandIs w h o
  hand_whole (NoRow z) = NoRow z
  hand_whole (OneRow r x) = OneRow r (record {
    there = there_whole x.there;
    upto = x.upto;
    from = x.from;
    rounding = x.rounding;
  })

  seen_whole : {s : Seen} {state : Choice.Seen} → SeenIs (take n w) s state → SeenIs w s state
  seen_whole p = record { met = p.met; asked = hand_whole p.asked; other = hand_whole p.other }

-- ---- the roundings of the window

module _ (w : List ℕ) (n : ℕ) (fits : n ≤ length w) (spot : ℕ) (p : SpotHeld (take n w) spot) where
  held_whole : SpotHeld w spot
  held_whole = record {
    held = λ z.
        let h = p.held z in
        record {
          fits = omega (arith, h.fits, stop_whole w n fits spot h.fits, length-take-le n w fits);
          kind = subst (OfKind 3) (part_whole w n fits spot h.fits) h.kind;
        };
  }

  spot_whole : spot_or w spot plain ≡ spot_or (take n w) spot plain
  unfolding spot_or
  spot_whole = go (ℕ_discrete spot 0)
    where
      go : Dec (spot ≡ 0) → spot_or w spot plain ≡ spot_or (take n w) spot plain
      go (yes z) = rw z
      go (no z) = rw (ne_eqb spot 0 z) (ap (λ (t : List ℕ). rounding_held (whole kinded t)) (sym (part_whole w n fits spot (p.held z).fits)))

-- a walk over the window finds what the book has
pub spots_within : {b article : List ℕ} {sort : ℕ} {w : Window} → Windows b 5 article sort w → {numbers : List ℕ} {n : ℕ} {spots : List ℕ}
    → SpotsFound (take w.spans.roundings.last b) w.spans.roundings.first numbers n spots → SpotsFound b 5 numbers n spots
spots_within {b} {w = w} window {numbers} {spots = spots} found = record {
  each = λ i l.
      let f = found.each i l in
      record {
        held = held_whole b w.spans.roundings.last window.rounding_fits (get_or spots i 0) f.held;
        is = spot_whole b w.spans.roundings.last window.rounding_fits (get_or spots i 0) f.held ∙ f.is ∙ ap (rounding_for (get_or numbers i 0)) window.rounding_same;
      };
}

-- ---- the rows of the window

-- those of a slot are of the asked article and sort
slot_own : (q : Question) (level place : ℕ) (rs : List Record) → keep (in_slot q level place) (rows_of q.article q.sort rs) ≡ keep (in_slot q level place) (rows rs)
unfolding rows_of in_slot
slot_own q level place rs =
    keep_keep (in_slot q level place) _ (rows rs)
    ∙ (λ i. keep (λ r. twice (same r.article q.article) (eqb r.sort q.sort) (eqb (level_of r.level) level && eqb (Grants.place_of q.granted r.condition) place) i) (rows rs))
  where
    twice : (a b c : Bool) → ((a && b) && (a && (b && c))) ≡ (a && (b && c))
    twice true true c = refl
    twice true false c = refl
    twice false b c = refl

pub walk_within : {w : List ℕ} {from : ℕ} {q : Question} {window : Window} {slots : List Seen} → Windows w from q.article q.sort window
    → SlotsHold (take window.spans.rows.last w) (rows (records_left (take window.spans.rows.last w) window.spans.rows.first)) q slots → SlotsHold w (rows (records_left w from)) q slots
unfolding seen_of
walk_within {w} {from} {q} {window} {slots} a b = record {
  long = b.long;
  each = λ level place l m.
      subst (SeenIs w (get_or slots (level * 33 + place) unseen))
      (ap (Choice.walk q.date q.quantity q.currency Choice.start)
      (sym (slot_own q level place (records_left (take window.spans.rows.last w) window.spans.rows.first)) ∙ ap (keep (in_slot q level place)) a.same ∙ slot_own q level place (records_left w from)))
      (seen_whole a.fits (b.each level place l m));
}
