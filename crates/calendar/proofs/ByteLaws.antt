-- The bytes of stretches: one by its fields, and one behind the other.
use Prim.Native.Nat.{ℕ, suc, ◌+◌, ◌*◌, ◌≤◌, ◌<◌}
use mathlib.Core.Path.{◌≡◌, refl, sym, ◌∙◌, ap, subst}
use mathlib.Core.List.{List, [], ◌∷◌, ◌++◌, map}
use native.Mathlib.Omega.{arith}
use native.Mathlib.Numerals.{add-one}
use lib.ListN.{length, take, drop, get_or, set, length-append, length-map, get_or-map, drop_of_length-le}
use lib.Seq.{sets, length-take-le, drop-cons}
use lib.IntN.{ℤ}
use mir.Syntax.{w64}
use mir.Val.{to_z, of_z, SFits}
use mir.ValLaws.{to_z-of_z}
use Rattle.rules.specs.Lists.{join}
use Rattle.rules.specs.Bytes.{bytes_of, signed_bytes_of}
use Rattle.rules.specs.Question.{letters_of}
use Rattle.rules.specs.Calendar.{Stretch, stretch_bytes, stretches_bytes}
use Rattle.layout.specs.Ensures.{Puts}
use Rattle.layout.proofs.StoreLaws.{puts_of, puts_then, sets_of, sets_sets}
use Rattle.stretches.specs.declared.Stretch as Declared
use Rattle.stretches.specs.declared.Stretches.{Stretches}
use Rattle.stretches.specs.Stretches.{as_stretch, no_stretch}
use Rattle.calendar.specs.Listing.{stretches_in}

-- ---- a stretch

pub currency_puts : (s : List ℕ) (at w x y z : ℕ) → at + 4 ≤ length s → Puts s at (w ∷ x ∷ y ∷ z ∷ []) (set (set (set (set s at w) (at + 1) x) (at + 2) y) (at + 3) z)
currency_puts s at w x y z h =
    let one : at + 1 ≡ suc at = omega arith in
    let two : at + 2 ≡ suc (suc at) = omega arith in
    let three : at + 3 ≡ suc (suc (suc at)) = omega arith in
    puts_of h (rw (one, two, three))

stretch_length : (r : Declared.Stretch) → length (stretch_bytes (as_stretch r)) ≡ 20
stretch_length r = refl

pub stretch_puts : (r : Declared.Stretch) {a b c d e : List ℕ} {at : ℕ}
    → Puts a at (bytes_of 4 r.first.0) b
    → Puts b (at + 4) (bytes_of 4 r.last.0) c
    → Puts c (at + 8) (r.outcome.refusal ∷ letters_of r.outcome.currency) d
    → Puts d (at + 12) (signed_bytes_of 8 r.outcome.unit.0) e
    → Puts a at (stretch_bytes (as_stretch r)) e
stretch_puts r p q s t = puts_then p refl (puts_then q (omega arith) (puts_then s (omega arith) t))

-- ---- stretches

module _ (r : Stretches) (few : r.n ≤ length r.list) where
  pub stretches_count : length (stretches_in r) ≡ r.n
  stretches_count = length-map (take r.n r.list) as_stretch ∙ length-take-le r.n r.list few

bytes_cons : (s : Stretch) (ss : List Stretch) → stretches_bytes (s ∷ ss) ≡ stretch_bytes s ++ stretches_bytes ss
unfolding stretches_bytes
bytes_cons s ss = refl

bytes_none : stretches_bytes [] ≡ []
unfolding stretches_bytes
bytes_none = refl

pub bytes_length : (rs : List Declared.Stretch) → length (stretches_bytes (map as_stretch rs)) ≡ 20 * length rs
unfolding stretches_bytes
bytes_length [] = refl
bytes_length (r ∷ rs) = length-append (stretch_bytes (as_stretch r)) (join (map stretch_bytes (map as_stretch rs))) ∙ omega (arith, stretch_length r, bytes_length rs)

next : (rs : List Declared.Stretch) (i : ℕ) → i < length rs → drop i (map as_stretch rs) ≡ as_stretch (get_or rs i no_stretch) ∷ drop (i + 1) (map as_stretch rs)
next rs i h =
    let l : i < length (map as_stretch rs) = rw (length-map rs as_stretch) h in
    drop-cons (map as_stretch rs) i (as_stretch no_stretch) l ∙ rw (get_or-map as_stretch rs i no_stretch, add-one)

-- the stretches that are left, stored behind those that are there, make up the whole
pub record Writing (old : List ℕ) (rs : List Declared.Stretch) (out : List ℕ) (i : ℕ) : Type 0 where
  pub place : i ≤ length rs
  pub room : 20 * length rs ≤ length old
  pub same : length out ≡ length old
  pub rest : sets out (20 * i) (stretches_bytes (drop i (map as_stretch rs))) ≡ sets old 0 (stretches_bytes (map as_stretch rs))

module _ {old : List ℕ} {rs : List Declared.Stretch} where
  pub write_start : 20 * length rs ≤ length old → Writing old rs old 0
  write_start w = record { place = omega arith; room = w; same = refl; rest = refl }

  module _ {out : List ℕ} {i : ℕ} (inv : Writing old rs out i) where
    pub write_again : {new : List ℕ} → i < length rs → Puts out (20 * i) (stretch_bytes (as_stretch (get_or rs i no_stretch))) new → Writing old rs new (i + 1)
    write_again {new} h p =
        let s : List ℕ = stretch_bytes (as_stretch (get_or rs i no_stretch)) in
        let ss : List ℕ = stretches_bytes (drop (i + 1) (map as_stretch rs)) in
        let e : 20 * (i + 1) ≡ 20 * i + length s = omega (arith, stretch_length (get_or rs i no_stretch)) in
        let f : stretches_bytes (drop i (map as_stretch rs)) ≡ s ++ ss = ap stretches_bytes (next rs i h) ∙ bytes_cons (as_stretch (get_or rs i no_stretch)) (drop (i + 1) (map as_stretch rs)) in
        record {
          place = omega arith;
          room = inv.room;
          same = p.long ∙ inv.same;
          rest =
              ap (λ (j : ℕ). sets new j ss) e
              ∙ ap (λ l. sets l (20 * i + length s) ss) (sets_of p)
              ∙ sets_sets s ss out (20 * i)
              ∙ ap (sets out (20 * i)) (sym f)
              ∙ inv.rest;
        }

    pub write_end : length rs ≤ i → Puts old 0 (stretches_bytes (map as_stretch rs)) out
    write_end h =
        let none_left : drop i (map as_stretch rs) ≡ [] = drop_of_length-le (map as_stretch rs) (let l : length (map as_stretch rs) ≤ i = rw (length-map rs as_stretch) h in l) in
        puts_of (omega (arith, inv.room, bytes_length rs))
        (sym (ap (λ ss. sets out (20 * i) (stretches_bytes ss)) none_left ∙ ap (sets out (20 * i)) bytes_none) ∙ inv.rest)
