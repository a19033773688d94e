-- A pass over the records of an accepted book, by their places: it meets the definition's records, one by one and to the last.
use Prim.Native.Nat.{ℕ, ◌+◌, ◌-◌, ◌≤◌, ◌<◌}
use mathlib.Core.Path.{◌≡◌, refl, sym, ◌∙◌, ap}
use mathlib.Core.Bool.{Bool, true, false, ◌&&◌, false≢true}
use mathlib.Core.List.{List, []}
use mathlib.Core.Option.{Option, some, none}
use mathlib.Core.Logic.{◌⊎◌, inl, inr}
use native.Mathlib.Omega.{arith}
use native.Mathlib.Decide.{dec_lt}
use lib.Dec.{leb}
use lib.ListN.{length, take, drop}
use borrow.Author.Tests.{leb-true, lt-ltb}
use Rattle.rules.specs.Lists.{is_some, cons_some}
use Rattle.rules.specs.Layout.{whole}
use Rattle.rules.specs.Bytes.{big}
use Rattle.rules.specs.Book.{Record}
use Rattle.rules.specs.BookLayout.{kinded, records, most_bytes}
use Rattle.rules.proofs.TestLaws.{and_left, and_right}
use Rattle.layout.specs.Reads.{when, part}
use Rattle.layout.specs.Ensures.{Number, head_ok, book_head_ok}
use Rattle.layout.proofs.FromLaws.{head_long}
use Rattle.layout.specs.Records.{record_in, records_from, record_stop, listed, records_of, records_left, RecordHere, StopIs, Between}
use Rattle.book.specs.Ensures.{RecordEnd}
use Rattle.book.proofs.BookLaws.{record_short, record_cut, record_good, record_bad, nothing_in, in_front, front_some, from_end, from_record, records_are}

-- ---- a record's end

-- a record has a kind byte
some_bytes : (b : List ℕ) (from to : ℕ) → is_some (whole kinded (part b from to)) ≡ true → from < to
some_bytes b from to e = go (dec_lt from to)
  where
    go : Dec (from < to) → from < to
    go (yes h) = h
    go (no h) =
        let z : to - from ≡ 0 = omega arith in
        absurd (false≢true (sym (ap (λ (n : ℕ). is_some (whole kinded (take n (drop from b)))) z) ∙ e))

pub stop_is : {b : List ℕ} {at n : ℕ} → RecordHere b at → Number (big (take 2 (drop at b))) 65536 n → StopIs b at (at + 2 + n)
stop_is {b} {at} {n} p e =
    let ok : is_some (whole kinded (part b (at + 2) (at + 2 + n))) ≡ true = rw e.is p.ok in
    record { is = rw e.is; low = some_bytes b (at + 2) (at + 2 + n) ok; fits = rw e.is p.fits; ok = ok }

-- so where a record ends, one was accepted
pub end_stops : {b : List ℕ} {at e : ℕ} → RecordEnd b at e → 1 ≤ e → StopIs b at e
unfolding record_in
end_stops {b} {at} {e} p h =
    let ok : is_some (whole kinded (part b (at + 2) e)) ≡ true = p.ok ∙ lt-ltb 0 e h in
    record { is = p.stop h; low = some_bytes b (at + 2) e ok; fits = p.fits; ok = ok }

-- a record is there, or not
record_cases : (b : List ℕ) (at : ℕ) → at ≤ length b → RecordEnd b at 0 ⊎ RecordEnd b at (record_stop b at)
record_cases b at l = first (dec_lt (length b - at) 2)
  where
    n : ℕ
    n = big (take 2 (drop at b))

    size : Number n (n + 1) n
    size = record { is = refl; below = omega arith }

    third : 2 ≤ length b - at → n ≤ length b - (at + 2) → (r : Bool) → is_some (whole kinded (part b (at + 2) (at + 2 + n))) ≡ r → RecordEnd b at 0 ⊎ RecordEnd b at (at + 2 + n)
    third g h true e = inr (record_good b at size g h (record { is = e }) refl)
    third g h false e = inl (record_bad b at size g h (record { is = e }) refl)

    second : 2 ≤ length b - at → Dec (length b - (at + 2) < n) → RecordEnd b at 0 ⊎ RecordEnd b at (at + 2 + n)
    second g (yes h) = inl (record_cut b at size g h)
    second g (no h) = third g (omega arith) (is_some (whole kinded (part b (at + 2) (at + 2 + n)))) refl

    first : Dec (length b - at < 2) → RecordEnd b at 0 ⊎ RecordEnd b at (at + 2 + n)
    first (yes g) = inl (record_short b at l g)
    first (no g) = second (omega arith) (dec_lt (length b - (at + 2)) n)

-- ---- the start: behind the header stand all records

module _ (b : List ℕ) (ok : is_some (records b) ≡ true) where
  pub book_records : records b ≡ some (records_of b)
  book_records = go (records b) ok
    where
      go : (o : Option (List Record)) → is_some o ≡ true → o ≡ some (listed o)
      go none e = absurd (false≢true e)
      go (some rs) e = refl

  accepted_head : book_head_ok b ≡ true
  accepted_head = go (book_head_ok b) (sym (ap is_some (records_are b)) ∙ ok)
    where
      go : (t : Bool) → is_some (when t (records_from b 5)) ≡ true → t ≡ true
      go true e = refl
      go false e = absurd (false≢true e)

  -- so a count of its bytes or records is small
  pub book_size : length b ≤ most_bytes
  book_size = leb-true (length b) most_bytes (and_left (leb (length b) most_bytes) (head_ok b) accepted_head)

  pub all_left : records_from b 5 ≡ records b
  all_left = sym (records_are b ∙ ap (λ t. when t (records_from b 5)) accepted_head)

  -- an accepted book is the list of its records
  pub book_left : records b ≡ some (records_left b 5)
  book_left = book_records ∙ ap (λ o. some (listed o)) (sym all_left)

  pub pass_start : Between b 5
  pass_start = record {
    low = omega arith;
    fits = head_long b (and_right (leb (length b) most_bytes) (head_ok b) accepted_head);
    ok = ap is_some all_left ∙ ok;
  }

-- ---- a step: the first of the records left stands here, and the others from its end on

listed_front : (o : Option Record) (rest : Option (List Record)) → (is_some o && is_some rest) ≡ true → listed (in_front o rest) ≡ cons_some o (listed rest)
listed_front none rest e = absurd (false≢true e)
listed_front (some r) none e = absurd (false≢true e)
listed_front (some r) (some rs) e = refl

module _ {b : List ℕ} {at : ℕ} (w : Between b at) where
  pub pass_end : length b ≤ at → records_left b at ≡ []
  pass_end h = ap listed (from_end b at h)

  module _ (h : at < length b) where
    ends : RecordEnd b at (record_stop b at)
    ends = go (record_cases b at (omega arith))
      where
        go : RecordEnd b at 0 ⊎ RecordEnd b at (record_stop b at) → RecordEnd b at (record_stop b at)
        go (inl p) = absurd (false≢true (sym (ap is_some (from_record b at h p ∙ ap (λ o. in_front o (records_from b 0)) (nothing_in b at))) ∙ w.ok))
        go (inr p) = p

    both_some : (is_some (record_in b at (record_stop b at)) && is_some (records_from b (record_stop b at))) ≡ true
    both_some = sym (ap is_some (from_record b at h ends) ∙ front_some (record_in b at (record_stop b at)) (records_from b (record_stop b at))) ∙ w.ok

    pub pass_here : RecordHere b at
    unfolding record_in
    pass_here = record { fits = ends.fits; ok = and_left (is_some (record_in b at (record_stop b at))) (is_some (records_from b (record_stop b at))) both_some }

    module _ {e : ℕ} (s : StopIs b at e) where
      pub pass_less : length b - e < length b - at
      pass_less = omega (arith, s.low)

      pub pass_next : Between b e
      pass_next = record {
        low = omega (arith, w.low, s.low);
        fits = s.fits;
        ok = rw s.is (and_right (is_some (record_in b at (record_stop b at))) (is_some (records_from b (record_stop b at))) both_some);
      }

      pub pass_record : records_left b at ≡ cons_some (whole kinded (part b (at + 2) e)) (records_left b e)
      unfolding record_in
      pass_record = rw s.is (ap listed (from_record b at h ends) ∙ listed_front (record_in b at (record_stop b at)) (records_from b (record_stop b at)) both_some)
