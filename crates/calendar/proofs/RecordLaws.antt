-- The records handed over are those of the definition's stretches.
use Prim.Native.Nat.{ℕ, zero, suc, ◌≤◌}
use mathlib.Core.Path.{◌≡◌, refl, sym, ◌∙◌, ap}
use mathlib.Core.Bool.{Bool, true, false}
use mathlib.Core.List.{List, [], ◌∷◌, ◌++◌, map}
use native.Mathlib.Omega.{arith}
use lib.Dec.{eqb}
use lib.ListN.{length, take, drop, get_or, set, length-set, length-map}
use lib.Seq.{length-take-le, take-suc, drop-cons, set_at, append_snoc}
use borrow.Author.Tests.{eqb-true, eqb-false}
use Rattle.rules.specs.Refusals.{done, refused, lent_after}
use Rattle.rules.specs.Calendar.{calendar_list, shown_records, lent_after_list, most_days, listing}
use Rattle.rules.specs.declared.CalendarAnswer.{CalendarAnswer}
use Rattle.stretches.specs.declared.Stretch as Declared
use Rattle.stretches.specs.Stretches.{as_stretch, record_of, no_stretch}
use Rattle.calendar.specs.declared.listing.Listing.{Listing}
use Rattle.calendar.specs.Calls.{CalendarListIs}
use Rattle.calendar.specs.Listing.{ListingIs, stretches_in, stretch_of, ListAnswer, filled}
use Rattle.calendar.proofs.ByteLaws.{stretches_count}
use Rattle.calendar.proofs.CallLaws.{two_parts, Finished, finish}

pub filled_length : (ys : List Declared.Stretch) (g : ℕ → Declared.Stretch) (i : ℕ) → length (filled ys g i) ≡ length ys
filled_length ys g zero = refl
filled_length ys g (suc i) = length-set (filled ys g i) i (g i) ∙ filled_length ys g i

-- a stretch in the code is the record of the definition's
two_maps : (rs : List Declared.Stretch) → map record_of (map as_stretch rs) ≡ rs
two_maps [] = refl
two_maps (r ∷ rs) = ap (λ l. r ∷ l) (two_maps rs)

-- the front of the list, over the front of what was lent
front_filled : (ys list : List Declared.Stretch) (n : ℕ) → n ≤ length ys → n ≤ length list
    → filled ys (λ i. get_or list i no_stretch) n ≡ take n list ++ drop n ys
front_filled ys list zero h k = refl
front_filled ys list (suc n) h k =
    let r : Declared.Stretch = get_or list n no_stretch in
    let old : Declared.Stretch = get_or ys n r in
    ap (λ l. set l n r) (front_filled ys list n (omega arith) (omega arith) ∙ ap (λ l. take n list ++ l) (drop-cons ys n r (omega arith)))
    ∙ set_at (take n list) old (drop (suc n) ys) r n (length-take-le n list (omega arith))
    ∙ sym (append_snoc (take n list) r (drop (suc n) ys))
    ∙ ap (λ l. l ++ drop (suc n) ys) (sym (take-suc list n no_stretch (omega arith)))

module _ (b s : List ℕ) (end : ℕ) (ys : List Declared.Stretch) {l : Listing} {r : CalendarAnswer}
    (w : ListingIs (listing b s end) l) (a : ListAnswer l (length ys) r) where
  fit : l.stretches.n ≤ length l.stretches.list
  fit = omega (arith, w.long, w.few)

  size_is : length (stretches_in l.stretches) ≡ l.stretches.n
  size_is = stretches_count l.stretches fit

  ends : Finished length (length ys) (listing b s end) l r.number
  ends = finish length w size_is a.number

  -- no more are handed over than there is room for
  pub list_room : r.length ≤ length ys
  list_room = go (eqb r.number 0) refl
    where
      go : (x : Bool) → eqb r.number 0 ≡ x → r.length ≤ length ys
      go true e = let z = eqb-true r.number 0 e in omega (arith, a.answers z, ends.fits z, size_is)
      go false e = omega (arith, a.refuses (eqb-false r.number 0 e))

  pub list_called : CalendarListIs b s end ys r (filled ys (stretch_of l) r.length)
  unfolding shown_records lent_after_list lent_after
  list_called = go (eqb r.number 0) refl
    where
      go : (x : Bool) → eqb r.number 0 ≡ x → CalendarListIs b s end ys r (filled ys (stretch_of l) r.length)
      go true e =
          let z : r.number ≡ 0 = eqb-true r.number 0 e in
          let n : r.length ≡ l.stretches.n = a.answers z in
          let is : calendar_list b s end (length ys) ≡ done (stretches_in l.stretches) = two_parts (λ ss. ss) b s end (length ys) ∙ ends.answers z in
          let front : List Declared.Stretch = take l.stretches.n l.stretches.list in
          let same : map record_of (map as_stretch front) ≡ front = two_maps front in
          let count : length (map record_of (map as_stretch front)) ≡ l.stretches.n = length-map (map as_stretch front) record_of ∙ size_is in
          record {
            answer = rw is (λ i. record { length = (n ∙ sym size_is) i; number = z i });
            output =
                rw (is, n)
                (front_filled ys l.stretches.list l.stretches.n (omega (arith, ends.fits z, size_is)) fit
                ∙ (λ i. sym same i ++ drop (sym count i) ys));
          }
      go false e =
          let z : r.number ≡ 0 → ⊥ = eqb-false r.number 0 e in
          let n : r.length ≡ 0 = a.refuses z in
          let is : calendar_list b s end (length ys) ≡ refused r.number = two_parts (λ ss. ss) b s end (length ys) ∙ ends.refuses z in
          record { answer = rw is (λ i. record { length = n i; number = r.number }); output = rw (is, n) }
