-- The call: what is listed, if it fits; else the refusals behind it, and nothing is written.
use Prim.Native.Nat.{ℕ, ◌*◌, ◌≤◌, ◌<◌}
use native.Mathlib.Nat.{zero-add}
use mathlib.Core.Path.{◌≡◌, refl, sym, ◌∙◌, ap, subst}
use mathlib.Core.Bool.{Bool, true, false, cond}
use mathlib.Core.List.{List, ◌++◌, map}
use native.Mathlib.Omega.{arith}
use lib.Dec.{eqb, leb}
use lib.ListN.{length, take, drop}
use lib.Seq.{length-take-le}
use borrow.Author.Tests.{eq-eqb, ne_eqb, eqb-false, le-leb, lt-leb, leb-true}
use Rattle.rules.specs.Refusals.{Result, done, refused, lent_after}
use Rattle.rules.specs.Calendar.{Stretch, stretches_bytes, listing, finished, calendar_in, calendar, shown_bytes}
use Rattle.layout.specs.Ensures.{Puts}
use Rattle.calendar.specs.declared.listing.Listing.{Listing}
use Rattle.calendar.specs.Calls.{CalendarIs}
use Rattle.calendar.specs.Listing.{stretches_in, ListingIs, refusal_of, RefusalIs, AnswerIs}
use Rattle.stretches.specs.declared.Stretch as Declared
use Rattle.stretches.specs.Stretches.{as_stretch}
use Rattle.rules.specs.declared.CalendarAnswer.{CalendarAnswer}
use Rattle.calendar.proofs.ByteLaws.{bytes_length}

-- ---- the definition's call in two parts

module _ {B : Type 0} (form : List Stretch → List B) (b s : List ℕ) (end room : ℕ) where
  pub two_parts : calendar_in form b s end room ≡ finished (λ ss. length (form ss)) room (listing b s end)
  unfolding calendar_in
  two_parts = refl

-- ---- the second part

module _ (listed size room : ℕ) where
  pub refused_listed : (listed ≡ 0 → ⊥) → RefusalIs listed size room listed
  unfolding refusal_of
  refused_listed n = record { is = rw (ne_eqb listed 0 n) }

  module _ (z : listed ≡ 0) where
    pub refused_7 : room < size → RefusalIs listed size room 7
    unfolding refusal_of
    refused_7 l = record { is = rw (eq-eqb listed 0 z, lt-leb size room l) }

    pub not_refused : size ≤ room → RefusalIs listed size room 0
    unfolding refusal_of
    not_refused l = record { is = rw (eq-eqb listed 0 z, le-leb size room l) }

-- `r` refuses, or all is there and fits
pub record Finished (size : List Stretch → ℕ) (room : ℕ) (o : Result (List Stretch)) (l : Listing) (r : ℕ) : Type 0 where
  pub refuses : (r ≡ 0 → ⊥) → finished size room o ≡ refused r
  pub answers : r ≡ 0 → finished size room o ≡ done (stretches_in l.stretches)
  pub fits : r ≡ 0 → size (stretches_in l.stretches) ≤ room

module _ (size : List Stretch → ℕ) (room : ℕ) (ss : List Stretch) (n : ℕ) where
  ended : (x y : Bool) → leb (size ss) room ≡ y → finished size room (cond x (done ss) (refused n)) ≡ cond x (cond y (done ss) (refused 7)) (refused n)
  unfolding finished
  ended false y e = refl
  ended true false e = rw e
  ended true true e = rw e

pub finish : (size : List Stretch → ℕ) {room : ℕ} {o : Result (List Stretch)} {l : Listing} {r k : ℕ} → ListingIs o l → size (stretches_in l.stretches) ≡ k → RefusalIs l.number k room r → Finished size room o l r
unfolding refusal_of
finish size {room} {o} {l} {r} {k} w e f =
    go (eqb l.number 0) (leb (size (stretches_in l.stretches)) room) refl refl
    (ap (finished size room) w.is ∙ ended size room (stretches_in l.stretches) l.number (eqb l.number 0) (leb (size (stretches_in l.stretches)) room) refl)
    (rw e f.is)
  where
    go : (x y : Bool) → eqb l.number 0 ≡ x → leb (size (stretches_in l.stretches)) room ≡ y
        → finished size room o ≡ cond x (cond y (done (stretches_in l.stretches)) (refused 7)) (refused l.number)
        → r ≡ cond x (cond y 0 7) l.number → Finished size room o l r
    go false y a b is num =
        let n : l.number ≡ 0 → ⊥ = eqb-false l.number 0 a in
        record {
          refuses = λ h. is ∙ ap refused (sym num);
          answers = λ h. absurd (n (sym num ∙ h));
          fits = λ h. absurd (n (sym num ∙ h));
        }
    go true false a b is num = record {
      refuses = λ h. is ∙ ap refused (sym num);
      answers = λ h. absurd (omega arith);
      fits = λ h. absurd (omega arith);
    }
    go true true a b is num = record {
      refuses = λ h. absurd (h num);
      answers = λ h. is;
      fits = λ h. leb-true (size (stretches_in l.stretches)) room b;
    }

-- ---- as bytes

module _ (b s : List ℕ) (end : ℕ) (lent : List ℕ) {l : Listing} {r : CalendarAnswer} (w : ListingIs (listing b s end) l) (f : AnswerIs l.number (20 * l.stretches.n) (length lent) r) where
  size_is : length (stretches_bytes (stretches_in l.stretches)) ≡ 20 * l.stretches.n
  size_is = bytes_length (take l.stretches.n l.stretches.list) ∙ ap (λ (k : ℕ). 20 * k) (length-take-le l.stretches.n l.stretches.list (omega (arith, w.long, w.few)))

  ends : Finished (λ ss. length (stretches_bytes ss)) (length lent) (listing b s end) l r.number
  ends = finish (λ ss. length (stretches_bytes ss)) w size_is f.number

  abbrev called : Result (List Stretch)
  called = calendar b s end (length lent)

  pub calendar_refused : (r.number ≡ 0 → ⊥) → CalendarIs b s end lent r lent
  unfolding shown_bytes lent_after
  calendar_refused h =
      let is : called ≡ refused r.number = two_parts stretches_bytes b s end (length lent) ∙ ends.refuses h in
      record { answer = rw is (λ i. record { length = f.refuses h i; number = r.number }); output = rw is }

  module _ {rs : List Declared.Stretch} (e : rs ≡ take l.stretches.n l.stretches.list) (h : r.number ≡ 0) where
    pub calendar_room : 20 * length rs ≤ length lent
    calendar_room = omega (arith, ends.fits h, size_is, ap length e, length-take-le l.stretches.n l.stretches.list (omega (arith, w.long, w.few)))

    pub calendar_done : {new : List ℕ} → Puts lent 0 (stretches_bytes (map as_stretch rs)) new → CalendarIs b s end lent r new
    unfolding shown_bytes lent_after
    calendar_done {new} p =
        let is : called ≡ done (stretches_in l.stretches) = two_parts stretches_bytes b s end (length lent) ∙ ends.answers h in
        let put = subst (λ (x : List Declared.Stretch). Puts lent 0 (stretches_bytes (map as_stretch x)) new) e p in
        record {
          answer = rw is (λ i. record { length = (f.answers h ∙ sym size_is) i; number = h i });
          output = rw is (put.is ∙ ap (λ (k : ℕ). stretches_bytes (stretches_in l.stretches) ++ drop k lent) (zero-add (length (stretches_bytes (stretches_in l.stretches)))));
        }
