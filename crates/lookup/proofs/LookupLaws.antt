-- The lookup of roundings by spots meets the definition's: what is looked for, each turn of the walk, and its end.
use Prim.Native.Nat.{ℕ, suc, ◌+◌, ◌-◌, ◌%◌, ◌≤◌, ◌<◌}
use mathlib.Core.Path.{◌≡◌, refl, sym, ◌∙◌, ap, subst}
use mathlib.Core.Bool.{Bool, true, false, ◌&&◌, ◌||◌, not, cond, or-true, false≢true}
use mathlib.Core.List.{List, [], ◌∷◌, map}
use mathlib.Core.Option.{Option, some, none}
use Rattle.std.specs.Prelude.{Some, None}
use native.Mathlib.Omega.{arith}
use native.Mathlib.Decide.{dec_lt, ℕ_discrete}
use lib.Dec.{eqb}
use lib.ListN.{length, take, drop, get_or, set, replicate, drop_of_length-le, length-set, length-drop, length-replicate, get_or-replicate}
use lib.Seq.{length-take-le, take-take, get_or-set_same, get_or-set_other, get_or-take, drop-cons}
use borrow.Author.Tests.{eq-eqb, ne_eqb, not-true}
use Rattle.rules.specs.Lists.{is_some, cons_some, if_some}
use Rattle.rules.specs.Layout.{whole}
use Rattle.rules.specs.Book.{Record, RoundingRecord, as_rounding, roundings, rounding_for, plain}
use Rattle.rules.specs.BookLayout.{kinded, one_record}
use Rattle.rules.specs.Amounts.{SoundRounding}
use Rattle.rules.specs.declared.Rounding.{Rounding}
use Rattle.rules.proofs.ListLaws.{All, all_at}
use Rattle.rules.proofs.KindLaws.{rounding_kind, list_all}
use Rattle.rules.proofs.GivesLaws.{gives_repeated, whole_gives}
use Rattle.layout.specs.Reads.{part}
use Rattle.layout.specs.Records.{records_from, record_stop, listed, records_left, Between, RecordHere, StopIs}
use Rattle.book.proofs.BookLaws.{from_end}
use Rattle.book.proofs.WalkLaws.{pass_end, pass_here, pass_less, pass_next, pass_record}
use Rattle.records.specs.Asks.{Accepted, OfKind}
use Rattle.records.specs.Ensures.{Bounded, RoundingBounds, RoundingIs, NumberIs}
use Rattle.records.specs.Tests.{rounding_number}
use Rattle.records.proofs.BoundLaws.{gives_record}
use Rattle.records.proofs.RoundingLaws.{number_kind, rounding_long}
use Rattle.lookup.specs.Roundings.{RoundingUsed, rounding_held, rounding_there, spot_or, RoundingHere, SpotHeld, RoundingAt, Found, SpotsFound, Sought, Room, Placing, Wants, OpenAre, NextOpen, SpotAfter, SpotsAfter, Noted, RoundingSpot, SpotsNoted, SoughtAmong, Among}
-- at this door
pub use Rattle.book.proofs.WalkLaws.{book_records}

-- a record that has not the number
passed : (n : ℕ) (o : Option Record) (rs : List Record) → (rounding_number o ≡ n → ⊥) → rounding_for n (roundings (cons_some o rs)) ≡ rounding_for n (roundings rs)
unfolding rounding_number rounding_for
passed n none rs d = refl
passed n (some r) rs d = go (as_rounding r) d
  where
    go : (o : Option Rounding) → (if_some o 0 (λ x. x.number) ≡ n → ⊥) → rounding_for n (cons_some o (roundings rs)) ≡ rounding_for n (roundings rs)
    go none d = refl
    go (some x) d = rw (ne_eqb x.number n d)

-- the first that has it
hit : (n : ℕ) (r : Rounding) (rs : List Record) → r.number ≡ n → rounding_for n (roundings (RoundingRecord r ∷ rs)) ≡ r
unfolding rounding_for
hit n r rs e = rw (eq-eqb r.number n e)

-- ---- no record has number 0

left_bounds : (b : List ℕ) (at : ℕ) → All Bounded (records_left b at)
unfolding records_from
left_bounds b at = go (records_from b at) refl
  where
    go : (o : Option (List Record)) → records_from b at ≡ o → All Bounded (listed o)
    go none e = tt
    go (some rs) e = whole_gives (gives_repeated one_record gives_record) (drop at b) rs e

none_zero : (xs : List Rounding) → All RoundingBounds xs → rounding_for 0 xs ≡ plain
unfolding rounding_for
none_zero [] h = refl
none_zero (x ∷ xs) h = rw (ne_eqb x.number 0 (λ e. omega (arith, h.0.number_low))) (none_zero xs h.1)

pub zero_plain : (b : List ℕ) (at : ℕ) → rounding_for 0 (roundings (records_left b at)) ≡ plain
zero_plain b at = none_zero (roundings (records_left b at)) (list_all rounding_kind Bounded (records_left b at) (left_bounds b at))

-- ---- which numbers are looked for

-- of the numbers before i
pub record Opening (numbers spots : List ℕ) (low : List Bool) (any : Bool) (i : ℕ) : Type 0 where
  pub long : length low ≡ 256
  pub each : (j : ℕ) → j < i → (get_or numbers j 0 ≡ 0 → ⊥) → get_or spots j 0 ≡ 0 → Wants low any (get_or numbers j 0)

module _ (numbers spots : List ℕ) where
  pub opening_start : {low : List Bool} → length low ≡ 256 → Opening numbers spots low false 0
  opening_start e = record { long = e; each = λ j l. absurd (omega arith) }

  -- the test of number i
  abbrev is_open : ℕ → Bool
  is_open i = not (eqb (get_or numbers i 0) 0) && eqb (get_or spots i 0) 0

  module _ {low : List Bool} {any : Bool} {i : ℕ} (inv : Opening numbers spots low any i) where
    abbrev byte : ℕ
    byte = get_or numbers i 0 % 256

    abbrev low_after : List Bool
    low_after = set low byte (get_or low byte false || is_open i)

    inside : byte < length low
    inside = omega (arith, inv.long)

    -- what was looked for still is
    still : {k : ℕ} → Wants low any k → Wants low_after (any || is_open i) k
    still {k} w = record { some = w.some; any = rw w.any; low = go (ℕ_discrete (k % 256) byte) }
      where
        go : Dec (k % 256 ≡ byte) → get_or low_after (k % 256) false ≡ true
        go (yes e) =
            let f : get_or low byte false ≡ true = subst (λ (j : ℕ). get_or low j false ≡ true) e w.low in
            ap (λ (j : ℕ). get_or low_after j false) e ∙ get_or-set_same low byte (get_or low byte false || is_open i) false inside ∙ ap (λ (t : Bool). t || is_open i) f
        go (no n) = get_or-set_other low byte (k % 256) (get_or low byte false || is_open i) false n ∙ w.low

    newly : (get_or numbers i 0 ≡ 0 → ⊥) → get_or spots i 0 ≡ 0 → Wants low_after (any || is_open i) (get_or numbers i 0)
    newly n z =
        let t : is_open i ≡ true = rw (ne_eqb (get_or numbers i 0) 0 n, z) in
        record {
          some = n;
          any = ap (λ (x : Bool). any || x) t ∙ or-true any;
          low = get_or-set_same low byte (get_or low byte false || is_open i) false inside ∙ ap (λ (x : Bool). get_or low byte false || x) t ∙ or-true (get_or low byte false);
        }

    pub opening_again : Opening numbers spots (set low (get_or numbers i 0 % 256) (get_or low (get_or numbers i 0 % 256) false || (not (eqb (get_or numbers i 0) 0) && eqb (get_or spots i 0) 0))) (any || (not (eqb (get_or numbers i 0) 0) && eqb (get_or spots i 0) 0)) (i + 1)
    opening_again = record { long = length-set low byte (get_or low byte false || is_open i) ∙ inv.long; each = λ j l n z. go j n z (dec_lt j i) l }
      where
        go : (j : ℕ) → (get_or numbers j 0 ≡ 0 → ⊥) → get_or spots j 0 ≡ 0 → Dec (j < i) → j < i + 1 → Wants low_after (any || is_open i) (get_or numbers j 0)
        go j n z (yes h) l = still (inv.each j h n z)
        go j n z (no h) l =
            let e : i ≡ j = omega arith in
            subst (λ (m : ℕ). (get_or numbers m 0 ≡ 0 → ⊥) → get_or spots m 0 ≡ 0 → Wants low_after (any || is_open i) (get_or numbers m 0)) e newly n z

    pub opening_end : {n : ℕ} → n ≤ i → OpenAre numbers spots n low any
    opening_end h = record { long = inv.long; each = λ j l. inv.each j (omega arith) }

-- ---- a record of the book

module _ {b : List ℕ} {at : ℕ} (w : Between b at) (h : at < length b) {e : ℕ} (s : StopIs b at e) where
  left_passed : (k : ℕ) → (rounding_number (whole kinded (part b (at + 2) e)) ≡ k → ⊥) → rounding_for k (roundings (records_left b e)) ≡ rounding_for k (roundings (records_left b at))
  left_passed k n = sym (ap (λ (rs : List Record). rounding_for k (roundings rs)) (pass_record w h s) ∙ passed k (whole kinded (part b (at + 2) e)) (records_left b e) n)

  left_hit : {x : Rounding} → RoundingIs (part b (at + 2) e) x → rounding_for x.number (roundings (records_left b at)) ≡ x
  left_hit {x} r =
      ap (λ (rs : List Record). rounding_for x.number (roundings rs)) (pass_record w h s)
      ∙ ap (λ (o : Option Record). rounding_for x.number (roundings (cons_some o (records_left b e)))) r.is
      ∙ hit x.number x (records_left b e) refl

module _ {b : List ℕ} {at e : ℕ} (s : StopIs b at e) where
  pub there_rounding : OfKind 3 (part b (at + 2) e) → RoundingHere b at
  there_rounding k = record { fits = subst (λ (x : ℕ). x ≤ length b) s.is s.fits; kind = subst (λ (x : ℕ). OfKind 3 (part b (at + 2) x)) s.is k }

  pub here_kind : RoundingHere b at → OfKind 3 (part b (at + 2) e)
  here_kind h = subst (λ (x : ℕ). OfKind 3 (part b (at + 2) x)) (sym s.is) h.kind

pub here_record : {b : List ℕ} {at : ℕ} → RoundingHere b at → RecordHere b at
here_record h = record { fits = h.fits; ok = h.kind.ok }

-- with its length in front it has 18 bytes
module _ {b : List ℕ} {at : ℕ} (w : RoundingHere b at) where
  rounding_end : record_stop b at ≡ at + 18
  rounding_end =
      let long : length (part b (at + 2) (record_stop b at)) ≡ record_stop b at - (at + 2) = length-take-le (record_stop b at - (at + 2)) (drop (at + 2) b) (simp length-drop (omega (arith, w.fits))) in
      omega (arith, long, rounding_long w.kind)

  pub rounding_fits : at + 18 ≤ length b
  rounding_fits = omega (arith, rounding_end, w.fits)

  pub rounding_stops : StopIs b at (at + 18)
  rounding_stops = record { is = sym rounding_end; low = omega arith; fits = rounding_fits; ok = rw rounding_end at w.kind.ok }

-- ---- the next that is looked for

-- none of the records passed has a number with one of these low bytes
pub record Passing (b : List ℕ) (from : ℕ) (low : List Bool) (at : ℕ) : Type 0 where
  pub onward : from ≤ at
  pub between : Between b at
  pub rest : (k : ℕ) → (k ≡ 0 → ⊥) → get_or low (k % 256) false ≡ true → rounding_for k (roundings (records_left b at)) ≡ rounding_for k (roundings (records_left b from))

module _ {b : List ℕ} {from : ℕ} (low : List Bool) (any : Bool) where
  pub next_none : Between b from → not any ≡ true → NextOpen b from low any (length b)
  next_none w t = record {
    onward = w.fits;
    between = record {
      low = omega (arith, w.low, w.fits);
      fits = omega arith;
      ok = ap is_some (from_end b (length b) (omega arith));
    };
    here = λ l. absurd (omega arith);
    rest = λ k a. absurd (false≢true (sym (not-true any t) ∙ a.any));
  }

  pub next_start : Between b from → Passing b from low from
  next_start w = record { onward = omega arith; between = w; rest = λ k n l. refl }

  module _ {at : ℕ} (inv : Passing b from low at) where
    pub next_end : length b ≤ at → NextOpen b from low any at
    next_end h = record {
      onward = inv.onward;
      between = inv.between;
      here = λ l. absurd (omega arith);
      rest = λ k a. inv.rest k a.some a.low;
    }

    module _ (h : at < length b) where
      pub next_here : RecordHere b at
      next_here = pass_here inv.between h

      module _ {e : ℕ} (s : StopIs b at e) where
        pub next_accepted : Accepted (part b (at + 2) e)
        next_accepted = record { ok = s.ok }

        pub next_less : length b - e < length b - at
        next_less = pass_less inv.between h s

        pub next_found : {x : ℕ} → NumberIs (whole kinded (part b (at + 2) e)) (Some x) → NextOpen b from low any at
        next_found is = record {
          onward = inv.onward;
          between = inv.between;
          here = λ l. there_rounding s (number_kind next_accepted is);
          rest = λ k a. inv.rest k a.some a.low;
        }

        again : ((k : ℕ) → (k ≡ 0 → ⊥) → get_or low (k % 256) false ≡ true → rounding_number (whole kinded (part b (at + 2) e)) ≡ k → ⊥) → Passing b from low e
        again other = record {
          onward = omega (arith, inv.onward, s.low);
          between = pass_next inv.between h s;
          rest = λ k n l. left_passed inv.between h s k (other k n l) ∙ inv.rest k n l;
        }

        pub next_other : NumberIs (whole kinded (part b (at + 2) e)) None → Passing b from low e
        next_other is = again (λ k n l d. n (sym d ∙ sym is.is))

        pub next_again : {x : ℕ} → NumberIs (whole kinded (part b (at + 2) e)) (Some x) → get_or low (x % 256) false ≡ false → Passing b from low e
        next_again is t = again (λ k n l d. false≢true (sym t ∙ ap (λ (m : ℕ). get_or low (m % 256) false) (is.is ∙ d) ∙ l))

-- ---- a number's spot

module _ {spot : ℕ} {here : Bool} {at : ℕ} where
  pub spot_here : (eqb spot 0 && here) ≡ true → SpotAfter spot here at at
  spot_here t = record { is = rw t }

  pub spot_kept : (eqb spot 0 && here) ≡ false → SpotAfter spot here at spot
  spot_kept t = record { is = rw t }

-- those of the numbers before i are as they are after the record, the others as before
pub record Replacing (spots numbers : List ℕ) (number at : ℕ) (after : List ℕ) (i : ℕ) : Type 0 where
  pub long : length after ≡ 99
  pub done : (j : ℕ) → j < i → get_or after j 0 ≡ cond (eqb (get_or spots j 0) 0 && eqb (get_or numbers j 0) number) at (get_or spots j 0)
  pub rest : (j : ℕ) → i ≤ j → get_or after j 0 ≡ get_or spots j 0

module _ (spots numbers : List ℕ) (number at : ℕ) where
  pub replace_start : length spots ≡ 99 → Replacing spots numbers number at spots 0
  replace_start l = record { long = l; done = λ j k. absurd (omega arith); rest = λ j k. refl }

  module _ {after : List ℕ} {i : ℕ} (inv : Replacing spots numbers number at after i) where
    pub replace_end : {n : ℕ} → n ≤ i → SpotsAfter spots numbers n number at after
    replace_end h = record { long = inv.long; each = λ j l. inv.done j (omega arith) }

    pub replace_again : {n : ℕ} → i < n → n ≤ 99 → {r : ℕ} → SpotAfter (get_or after i 0) (eqb (get_or numbers i 0) number) at r → Replacing spots numbers number at (set after i r) (i + 1)
    replace_again h l {r} p = record {
      long = length-set after i r ∙ inv.long;
      done = λ j k. go j k (dec_lt j i);
      rest = λ j k. get_or-set_other after i j r 0 (λ e. omega arith) ∙ inv.rest j (omega arith);
    }
      where
        now : r ≡ cond (eqb (get_or spots i 0) 0 && eqb (get_or numbers i 0) number) at (get_or spots i 0)
        now = p.is ∙ ap (λ (k : ℕ). cond (eqb k 0 && eqb (get_or numbers i 0) number) at k) (inv.rest i (omega arith))

        go : (j : ℕ) → j < i + 1 → Dec (j < i) → get_or (set after i r) j 0 ≡ cond (eqb (get_or spots j 0) 0 && eqb (get_or numbers j 0) number) at (get_or spots j 0)
        go j m (yes k) = get_or-set_other after i j r 0 (λ e. omega arith) ∙ inv.done j k
        go j m (no k) =
            let e : i ≡ j = omega arith in
            let m : i < length after = omega (arith, inv.long) in
            subst (λ (x : ℕ). get_or (set after i r) x 0 ≡ cond (eqb (get_or spots x 0) 0 && eqb (get_or numbers x 0) number) at (get_or spots x 0)) e (get_or-set_same after i r 0 m ∙ now)

-- ---- the walk

module _ (b : List ℕ) (p : ℕ) (x : Rounding) where
  at_none : p ≡ 0 → spot_or b p x ≡ x
  unfolding spot_or
  at_none z = rw z

  at_some : (p ≡ 0 → ⊥) → spot_or b p x ≡ rounding_held (whole kinded (part b (p + 2) (record_stop b p)))
  unfolding spot_or
  at_some n = rw (ne_eqb p 0 n)

-- what stands where a rounding was read
at_read : {b : List ℕ} {at e : ℕ} → StopIs b at e → {x : Rounding} → RoundingIs (part b (at + 2) e) x → (at ≡ 0 → ⊥) → (y : Rounding) → spot_or b at y ≡ x
unfolding rounding_held
at_read {b} {at} {e} s {x} r n y = at_some b at y n ∙ ap (λ (k : ℕ). rounding_held (whole kinded (part b (at + 2) k))) (sym s.is) ∙ ap rounding_held r.is

number_of : {t : List ℕ} {x : Rounding} → RoundingIs t x → rounding_number (whole kinded t) ≡ x.number
unfolding rounding_number
number_of r = ap rounding_number r.is

module _ {b : List ℕ} {from : ℕ} where
  -- a rounding that goes by
  sought_after : {at : ℕ} → Between b at → at < length b → RoundingHere b at → {e : ℕ} → StopIs b at e → {x : Rounding} → RoundingIs (part b (at + 2) e) x
      → {k p q : ℕ} → Sought b from k p at → q ≡ cond (eqb p 0 && eqb k x.number) at p → Sought b from k q e
  sought_after {at} w h here {e} s {x} r {k} {p} {q} t i = go (ℕ_discrete p 0) (ℕ_discrete k x.number)
    where
      keeps : p ≡ q → (spot_or b p (rounding_for k (roundings (records_left b e))) ≡ spot_or b p (rounding_for k (roundings (records_left b at)))) → Sought b from k q e
      keeps d f = subst (λ (y : ℕ). Sought b from k y e) d (record { held = t.held; is = f ∙ t.is })

      go : Dec (p ≡ 0) → Dec (k ≡ x.number) → Sought b from k q e
      go (no n) d =
          keeps (sym (i ∙ rw (ne_eqb p 0 n)))
          (at_some b p (rounding_for k (roundings (records_left b e))) n ∙ sym (at_some b p (rounding_for k (roundings (records_left b at))) n))
      go (yes z) (no d) =
          keeps (sym (i ∙ rw (z, ne_eqb k x.number d)))
          (ap (spot_or b p) (left_passed w h s k (λ f. d (sym f ∙ number_of r))))
      go (yes z) (yes d) =
          let a : at ≡ q = sym (i ∙ rw (z, eq-eqb k x.number d)) in
          let n : at ≡ 0 → ⊥ = λ f. omega (arith, w.low) in
          subst (λ (y : ℕ). Sought b from k y e) a
          (record {
            held = record { held = λ f. here };
            is = at_read s r n (rounding_for k (roundings (records_left b e))) ∙ sym (left_hit w h s r) ∙ ap (λ (y : ℕ). rounding_for y (roundings (records_left b at))) (sym d)
                ∙ sym (at_none b p (rounding_for k (roundings (records_left b at))) z) ∙ t.is;
          })

  -- and the records up to the next that is looked for
  sought_next : {numbers spots : List ℕ} {n e : ℕ} {low : List Bool} {any : Bool} → Room spots low n → ((i : ℕ) → i < n → Sought b from (get_or numbers i 0) (get_or spots i 0) e) → OpenAre numbers spots n low any
      → {at : ℕ} → NextOpen b e low any at → Placing b from numbers n spots low at
  sought_next {numbers} {spots} {n} {e} room each are {at} next = record {
    room = room;
    between = next.between;
    here = next.here;
    each = λ i l. record { held = (each i l).held; is = go i l (ℕ_discrete (get_or spots i 0) 0) (ℕ_discrete (get_or numbers i 0) 0) ∙ (each i l).is };
  }
    where
      left : ℕ → ℕ → Rounding
      left k x = rounding_for k (roundings (records_left b x))

      go : (i : ℕ) → i < n → Dec (get_or spots i 0 ≡ 0) → Dec (get_or numbers i 0 ≡ 0) → spot_or b (get_or spots i 0) (left (get_or numbers i 0) at) ≡ spot_or b (get_or spots i 0) (left (get_or numbers i 0) e)
      go i l (no z) d = at_some b (get_or spots i 0) (left (get_or numbers i 0) at) z ∙ sym (at_some b (get_or spots i 0) (left (get_or numbers i 0) e) z)
      go i l (yes z) (yes d) = ap (spot_or b (get_or spots i 0)) (ap (λ (k : ℕ). left k at) d ∙ zero_plain b at ∙ sym (zero_plain b e) ∙ ap (λ (k : ℕ). left k e) (sym d))
      go i l (yes z) (no d) = ap (spot_or b (get_or spots i 0)) (next.rest (get_or numbers i 0) (are.each i l d z))

module _ {b : List ℕ} {from : ℕ} {numbers : List ℕ} {n : ℕ} where
  pub placing_start : n ≤ 99 → {low : List Bool} {any : Bool} → OpenAre numbers (replicate 99 0) n low any → {at : ℕ} → NextOpen b from low any at → Placing b from numbers n (replicate 99 0) low at
  placing_start l are next = sought_next (record { spots_long = length-replicate {A = ℕ} 99 0; flags_long = are.long; few = l }) (λ i k. start (get_or-replicate 99 i 0 0 (omega arith))) are next
    where
      start : {k p : ℕ} → p ≡ 0 → Sought b from k p from
      start {k} {p} z = record { held = record { held = λ f. absurd (f z) }; is = at_none b p (rounding_for k (roundings (records_left b from))) z }

  module _ {spots : List ℕ} {flags : List Bool} {at : ℕ} (inv : Placing b from numbers n spots flags at) where
    pub placing_end : length b ≤ at → SpotsFound b from numbers n spots
    unfolding rounding_for
    placing_end h = record {
      each = λ i l. record {
        held = (inv.each i l).held;
        is = ap (λ (rs : List Record). spot_or b (get_or spots i 0) (rounding_for (get_or numbers i 0) (roundings rs))) (sym (pass_end inv.between h)) ∙ (inv.each i l).is;
      };
    }

    module _ (h : at < length b) where
      pub placing_here : RoundingHere b at
      placing_here = inv.here h

      pub placing_fits : at + 18 ≤ length b
      placing_fits = rounding_fits (inv.here h)

      module _ {e : ℕ} (s : StopIs b at e) where
        pub placing_kind : OfKind 3 (part b (at + 2) e)
        placing_kind = here_kind s (inv.here h)

        pub placing_between : Between b e
        placing_between = pass_next inv.between h s

        pub placing_less : {low : List Bool} {any : Bool} {next : ℕ} → NextOpen b e low any next → length b - next < length b - at
        placing_less p = omega (arith, p.onward, s.low)

        pub placing_again : {x : Rounding} → RoundingIs (part b (at + 2) e) x → {after : List ℕ} {low : List Bool} {any : Bool} → Noted spots numbers n x.number at after low any
            → {next : ℕ} → NextOpen b e low any next → Placing b from numbers n after low next
        placing_again r p next =
            sought_next (record { spots_long = p.put.long; flags_long = p.opened.long; few = inv.room.few })
            (λ i l. sought_after inv.between h (inv.here h) s r (inv.each i l) (p.put.each i l)) p.opened next

-- ---- the rounding at a spot

plain_sound : SoundRounding plain
plain_sound = record {
  step_low = omega arith;
  step_high = omega arith;
  before_in = omega arith;
  after_in = omega arith;
}

module _ {b : List ℕ} {spot : ℕ} where
  pub plain_at : spot ≡ 0 → {r : Rounding} → r ≡ plain → RoundingAt b spot r
  plain_at z e =
      record {
        is = e ∙ sym (at_none b spot plain z);
        sound = rw e plain_sound;
      }

  module _ (w : SpotHeld b spot) (n : spot ≡ 0 → ⊥) where
    pub held_here : RecordHere b spot
    held_here = here_record (w.held n)

    module _ {e : ℕ} (s : StopIs b spot e) where
      pub held_kind : OfKind 3 (part b (spot + 2) e)
      held_kind = here_kind s (w.held n)

      pub rounding_at_lem : {r : Rounding} → RoundingIs (part b (spot + 2) e) r → RoundingAt b spot r
      rounding_at_lem i = record {
        is = sym (at_read s i n plain);
        sound = i.bounds.sound;
      }

-- a spot that was found for a number has its rounding
pub found_used : {b : List ℕ} {from number spot : ℕ} → Found b from number spot → {r : Rounding} → RoundingAt b spot r → RoundingUsed b from number r
found_used f r = record { is = r.is ∙ f.is; sound = r.sound }

-- ---- among noted spots

module _ (b : List ℕ) (from : ℕ) where
  -- a noted rounding that goes by
  among_after : {at : ℕ} → RoundingSpot b at → (left : List ℕ) {x : Rounding} → RoundingAt b at x → {k p q : ℕ} → SoughtAmong b from k p (at ∷ left)
      → q ≡ cond (eqb p 0 && eqb k x.number) at p → SoughtAmong b from k q left
  unfolding rounding_for
  among_after {at} spot left {x} r {k} {p} {q} t i = go (ℕ_discrete p 0) (ℕ_discrete k x.number)
    where
      rest : Rounding
      rest = rounding_for k (map (rounding_there b) left)

      all : Rounding
      all = rounding_for k (map (rounding_there b) (at ∷ left))

      some_spot : at ≡ 0 → ⊥
      some_spot z = omega (arith, spot.low)

      there : rounding_there b at ≡ x
      there = sym (r.is ∙ at_some b at plain some_spot)

      keeps : p ≡ q → spot_or b p rest ≡ spot_or b p all → SoughtAmong b from k q left
      keeps d f = subst (λ (y : ℕ). SoughtAmong b from k y left) d (record { held = t.held; is = f ∙ t.is })

      go : Dec (p ≡ 0) → Dec (k ≡ x.number) → SoughtAmong b from k q left
      go (no n) d = keeps (sym (i ∙ rw (ne_eqb p 0 n))) (at_some b p rest n ∙ sym (at_some b p all n))
      go (yes z) (no d) =
          keeps (sym (i ∙ rw (z, ne_eqb k x.number d)))
          (ap (spot_or b p) (sym (rw (there, ne_eqb x.number k (λ e. d (sym e))))))
      go (yes z) (yes d) =
          let a : at ≡ q = sym (i ∙ rw (z, eq-eqb k x.number d)) in
          subst (λ (y : ℕ). SoughtAmong b from k y left) a
          (record {
            held = record { held = λ f. spot.here };
            is = at_some b at rest some_spot ∙ there ∙ sym (rw (there, eq-eqb x.number k (sym d))) ∙ sym (at_none b p all z) ∙ t.is;
          })

module _ {b : List ℕ} {from : ℕ} {noted : List ℕ} {count : ℕ} (all : SpotsNoted b from noted count) {numbers : List ℕ} {n : ℕ} where
  pub among_start : n ≤ 99 → Among b from noted count numbers n (replicate 99 0) 0
  among_start l = record { long = length-replicate {A = ℕ} 99 0; each = λ i k. start (get_or-replicate 99 i 0 0 (omega arith)) }
    where
      start : {k p : ℕ} → p ≡ 0 → SoughtAmong b from k p (take count noted)
      start {k} {p} z = record {
        held = record { held = λ f. absurd (f z) };
        is = at_none b p (rounding_for k (map (rounding_there b) (take count noted))) z ∙ ap (rounding_for k) all.are;
      }

  module _ {spots : List ℕ} {j : ℕ} (inv : Among b from noted count numbers n spots j) where
    long : length (take count noted) ≡ count
    long = length-take-le count noted all.fits

    pub among_end : count ≤ j → SpotsFound b from numbers n spots
    unfolding rounding_for
    among_end h = record {
      each = λ i l. record {
        held = (inv.each i l).held;
        is = ap (λ (xs : List ℕ). spot_or b (get_or spots i 0) (rounding_for (get_or numbers i 0) (map (rounding_there b) xs))) (sym (drop_of_length-le (take count noted) {i = j} (omega (arith, long)))) ∙ (inv.each i l).is;
      };
    }

    module _ (h : j < count) where
      spot_at : RoundingSpot b (get_or noted j 0)
      spot_at = subst (RoundingSpot b) (get_or-take count noted j 0 h) (all_at (RoundingSpot b) (take count noted) 0 all.there j (omega (arith, long)))

      pub among_held : SpotHeld b (get_or noted j 0)
      among_held = record { held = λ f. spot_at.here }

      next : drop j (take count noted) ≡ get_or noted j 0 ∷ drop (j + 1) (take count noted)
      next =
          let e : suc j ≡ j + 1 = omega arith in
          drop-cons (take count noted) j 0 (omega (arith, long)) ∙ (λ i. get_or-take count noted j 0 h i ∷ drop (e i) (take count noted))

      pub among_again : {x : Rounding} → RoundingAt b (get_or noted j 0) x → {after : List ℕ} → SpotsAfter spots numbers n x.number (get_or noted j 0) after
          → Among b from noted count numbers n after (j + 1)
      among_again r p = record {
        long = p.long;
        each = λ i l.
            among_after b from spot_at (drop (j + 1) (take count noted)) r
            (subst (SoughtAmong b from (get_or numbers i 0) (get_or spots i 0)) next (inv.each i l)) (p.each i l);
      }

-- ---- the numbers and the spots as the front of longer lists

pub found_front : {b : List ℕ} {from : ℕ} (numbers : List ℕ) (n : ℕ) {spots : List ℕ} → n ≤ length numbers
    → SpotsFound b from (take n numbers) (length (take n numbers)) spots → SpotsFound b from numbers n spots
found_front {b} {from} numbers n {spots} h f = record {
  each = λ i l. subst (λ (k : ℕ). Found b from k (get_or spots i 0)) (get_or-take n numbers i 0 l) (f.each i (omega (arith, length-take-le n numbers h)));
}

pub noted_front : {b : List ℕ} {from : ℕ} (noted : List ℕ) (count : ℕ) → SpotsNoted b from noted count → SpotsNoted b from (take count noted) (length (take count noted))
noted_front {b} {from} noted count s =
    let e : length (take count noted) ≡ count = length-take-le count noted s.fits in
    let f : take count (take count noted) ≡ take count noted = take-take count count noted (omega arith) in
    subst (λ (k : ℕ). SpotsNoted b from (take count noted) k) (sym e) (record { fits = omega (arith, e); there = rw f s.there; are = rw f s.are })
