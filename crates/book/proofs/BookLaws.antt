-- A record at a place of a book, the header, and the records one behind the other: what `book_ok` goes by.
use Prim.Native.Nat.{ℕ, suc, ◌+◌, ◌-◌, ◌≤◌, ◌<◌}
use mathlib.Core.Path.{◌≡◌, refl, sym, ◌∙◌, ap, subst}
use mathlib.Core.Bool.{Bool, true, false, ◌&&◌, false≢true}
use mathlib.Core.List.{List, [], ◌∷◌}
use mathlib.Core.Option.{Option, some, none}
use native.Mathlib.Omega.{arith}
use lib.Dec.{leb, ltb}
use lib.ListN.{length, take, drop, get_or, drop_of_length-le}
use lib.Seq.{drop-cons}
use borrow.Author.Tests.{lt-ltb, le-ltb}
use Rattle.rules.specs.Lists.{is_some}
use Rattle.rules.specs.Layout.{and_then, give, whole, wholly, back, repeated}
use Rattle.rules.specs.Bytes.{number, big}
use Rattle.rules.specs.Book.{Record}
use Rattle.rules.specs.BookLayout.{kinded, one_record, most_bytes, records}
use Rattle.rules.proofs.TestLaws.{and_right}
use Rattle.layout.specs.Reads.{when}
use Rattle.layout.specs.Ensures.{Accepts, Number, Says, head_ok, book_head_ok}
use Rattle.layout.proofs.LayoutLaws.{and_then_some, then_rest, then_broken, then_when, bytes_cut, number_at_lem, number_cut, sized_number}
use Rattle.layout.proofs.FromLaws.{head_long, behind_head}
use Rattle.layout.proofs.SequenceLaws.{repeated_step, repeated_broken, framed_at, framed_left}
use Rattle.layout.specs.Records.{record_in, records_from}
use Rattle.pairs.specs.Pairs.{Front}
use Rattle.pairs.proofs.PairLaws.{front_part}
use Rattle.book.specs.Ensures.{RecordEnd, Decides}

-- ---- a record at a place

none_back : {A : Type 0} (o : Option A) (s : List ℕ) → is_some o ≡ false → back o s ≡ none
none_back none s i = refl
none_back (some x) s i = absurd (false≢true (sym i))

module _ (b : List ℕ) (at : ℕ) where
  pub nothing_in : record_in b at 0 ≡ none
  unfolding record_in
  nothing_in = let e : 0 - (at + 2) ≡ 0 = omega arith in rw e

  no_record : one_record (drop at b) ≡ none → RecordEnd b at 0
  no_record e = record {
    is = e ∙ rw nothing_in;
    ok = rw nothing_in;
    low = λ h. absurd (omega arith);
    stop = λ h. absurd (omega arith);
    fits = omega arith;
  }

  pub record_short : at ≤ length b → length b - at < 2 → RecordEnd b at 0
  record_short g h = no_record (then_broken _ _ (number_cut b at 2 g (omega arith)) refl)

  -- the bytes of a record, and all from its first on
  pub record_front : {n : ℕ} → 2 ≤ length b - at → n ≤ length b - (at + 2) → Front (take (at + 2 + n - (at + 2)) (drop (at + 2) b)) (take (length b - (at + 2)) (drop (at + 2) b))
  record_front {n} g h = front_part b (at + 2) (at + 2 + n - (at + 2)) (length b - (at + 2)) (omega arith) (omega arith)

  module _ {n top : ℕ} (size : Number (big (take 2 (drop at b))) top n) (g : 2 ≤ length b - at) where
    pub record_cut : length b - (at + 2) < n → RecordEnd b at 0
    record_cut h = no_record (then_when _ _ (number_at_lem b at 2 (omega arith)) (then_broken _ _ (bytes_cut b (at + 2) (big (take 2 (drop at b))) (omega arith) (omega (arith, size.is))) refl))

    module _ (h : n ≤ length b - (at + 2)) {r : Bool} (p : Accepts (whole kinded (take (at + 2 + n - (at + 2)) (drop (at + 2) b))) r) where
      one : one_record (drop at b) ≡ back (record_in b at (at + 2 + n)) (drop (at + 2 + n) b)
      unfolding record_in
      one =
          let e : at + 2 + n - (at + 2) ≡ n = omega arith in
          rw (e, size.is) (then_rest _ _ (number_at_lem b at 2 (omega arith)) refl ∙ framed_at (big (take 2 (drop at b))) kinded b (at + 2) (omega (arith, size.is)))

      pub record_good : r ≡ true → RecordEnd b at (at + 2 + n)
      unfolding record_in
      record_good e = record {
        is = one;
        ok = p.is ∙ (e ∙ sym (lt-ltb 0 (at + 2 + n) (omega arith)));
        low = λ i. omega arith;
        stop = λ i. omega (arith, size.is);
        fits = omega arith;
      }

      pub record_bad : r ≡ false → RecordEnd b at 0
      unfolding record_in
      record_bad e = no_record (one ∙ none_back (record_in b at (at + 2 + n)) (drop (at + 2 + n) b) (p.is ∙ e))

-- ---- the head
module _ (b : List ℕ) where
  -- a book is a head and the records behind it
  pub records_are : records b ≡ when (book_head_ok b) (records_from b 5)
  unfolding records records_from
  records_are = behind_head b (repeated one_record)

  module _ {r : Bool} (p : Says (book_head_ok b) r) where
    pub book_not : r ≡ false → false ≡ is_some (records b)
    book_not e = rw (records_are, p.is, e)

    pub book_start : r ≡ true → Decides b 5
    book_start e = record { fits = head_long b (and_right (leb (length b) most_bytes) (head_ok b) (p.is ∙ e)); rest = rw (records_are, p.is, e) }

-- ---- one record behind the other

record_shrinks : (s : List ℕ) (r : Record) (t : List ℕ) → one_record s ≡ some (r, t) → length t < length s
record_shrinks s r t e =
    let x = and_then_some (number 2 s) _ e in
    let f : length s ≡ 2 + length x.0.1 = (sized_number 2).takes s x.0.0 x.0.1 x.1 in
    let g : length x.0.1 ≡ x.0.0 + length t = framed_left x.0.0 kinded x.0.1 x.2 in
    omega arith

-- a record in front of those behind it
abbrev pub in_front : Option Record → Option (List Record) → Option (List Record)
in_front none o = none
in_front (some r) none = none
in_front (some r) (some rs) = some (r ∷ rs)

pub front_some : (o : Option Record) (rest : Option (List Record)) → is_some (in_front o rest) ≡ (is_some o && is_some rest)
front_some none rest = refl
front_some (some r) none = refl
front_some (some r) (some rs) = refl

module _ (b : List ℕ) (at : ℕ) where
  pub from_end : length b ≤ at → records_from b at ≡ some []
  unfolding records_from
  from_end h = ap (λ t. wholly (repeated one_record t)) (drop_of_length-le b h)

  from_none : at < length b → one_record (drop at b) ≡ none → records_from b at ≡ none
  unfolding records_from
  from_none h e =
      let d : drop at b ≡ get_or b at 0 ∷ drop (suc at) b = drop-cons b at 0 h in
      ap (λ t. wholly (repeated one_record t)) d
      ∙ ap wholly (repeated_broken one_record record_shrinks (get_or b at 0) (drop (suc at) b) (subst (λ (t : List ℕ). one_record t ≡ none) d e))

  from_some : (r : Record) (next : ℕ) → one_record (drop at b) ≡ some (r, drop next b) → records_from b at ≡ in_front (some r) (records_from b next)
  unfolding records_from
  from_some r next e = ap wholly (repeated_step one_record record_shrinks (drop at b) r (drop next b) e) ∙ go (repeated one_record (drop next b))
    where
      end : (rs : List Record) (t : List ℕ) → wholly (some (r ∷ rs, t)) ≡ in_front (some r) (wholly (some (rs, t)))
      end rs [] = refl
      end rs (x ∷ t) = refl

      go : (o : Option (List Record × List ℕ)) → wholly (and_then o (λ rest. give (r ∷ rest))) ≡ in_front (some r) (wholly o)
      go none = refl
      go (some q) = end q.0 q.1

  -- the records from a place on: the one that stands there, and those from its end on
  pub from_record : {e : ℕ} → at < length b → RecordEnd b at e → records_from b at ≡ in_front (record_in b at e) (records_from b e)
  from_record {e} h p = go (record_in b at e) p.is
    where
      go : (o : Option Record) → one_record (drop at b) ≡ back o (drop e b) → records_from b at ≡ in_front o (records_from b e)
      go none i = from_none h i
      go (some r) i = from_some r e i

-- ---- the walk of `book_ok`

module _ {b : List ℕ} {at : ℕ} (inv : Decides b at) where
  pub walk_end : length b ≤ at → true ≡ is_some (records b)
  walk_end h = sym (ap is_some (from_end b at h)) ∙ inv.rest

  module _ (h : at < length b) {e : ℕ} (p : RecordEnd b at e) where
    decided : (t : Bool) → ltb 0 e ≡ t → (t && is_some (records_from b e)) ≡ is_some (records b)
    decided t i = sym (ap is_some (from_record b at h p) ∙ (front_some (record_in b at e) (records_from b e) ∙ ap (λ u. u && is_some (records_from b e)) (p.ok ∙ i))) ∙ inv.rest

    pub walk_bad : e < 1 → false ≡ is_some (records b)
    walk_bad g = decided false (le-ltb 0 e (omega arith))

    pub walk_again : 1 ≤ e → Decides b e
    walk_again g = record { fits = p.fits; rest = decided true (lt-ltb 0 e (omega arith)) }
