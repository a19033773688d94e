-- The columns that hold numbers: what stands in each, and the semicolon behind it.
use Prim.Native.Nat.{ℕ, zero, suc, ◌+◌, ◌-◌, ◌/◌, ◌%◌, ◌≤◌, ◌<◌}
use mathlib.Core.Path.{◌≡◌, refl, sym, ◌∙◌, ap, subst}
use mathlib.Core.Bool.{Bool, true, false, cond}
use mathlib.Core.List.{List, [], ◌∷◌, ◌++◌}
use native.Mathlib.Omega.{arith}
use lib.IntN.{ℤ, pos, negsuc}
use lib.Signed.{lt_z}
use mir.Val.{sel}
use Rattle.std.specs.Int.{w32, cast_signed, cast_unsigned}
use Rattle.std.specs.Prelude.{unsigned_abs}
use Rattle.std.proofs.lemmas.Int.{of_z-to_z}
use lib.Dec.{ltb}
use lib.ListN.{length, set, length-append}
use borrow.Author.Tests.{ltb-true}
use Rattle.rules.specs.Bytes.{signed_of}
use Rattle.rules.specs.Program.{decimal}
use Rattle.file_rules.specs.Decimals.{digits_of, blank_zero, text_text, cents_text, value_text}
use Rattle.layout.specs.Ensures.{Number, PutsTo}
use Rattle.layout.proofs.StoreLaws.{puts_of, to_then}
use Rattle.decimals.specs.Texts.{ended, shown, RoomFor}
use Rattle.decimals.proofs.DigitLaws.{as_last}

-- ---- the semicolon

pub ended_length : (s : List ℕ) → length (ended s) ≡ length s + 1
unfolding ended
ended_length s = length-append s (59 ∷ [])

pub byte_put : {old : List ℕ} {at b : ℕ} → at < length old → PutsTo old at (b ∷ []) (set old at b) (at + 1)
byte_put h = record { puts = puts_of (omega arith) refl; ends = refl }

module _ {out : List ℕ} {at : ℕ} (s : List ℕ) (p : RoomFor out at (ended s)) where
  pub end_first : at < length out
  end_first = omega (arith, p.room, ended_length s)

  pub room_in : RoomFor out at s
  room_in = record { room = omega (arith, p.room, ended_length s) }

  pub end_room : {new : List ℕ} {r : ℕ} → PutsTo out at s new r → r < length new
  end_room q = omega (arith, p.room, ended_length s, q.puts.long, q.ends)

pub end_behind : {a b c : List ℕ} {at m r : ℕ} (s : List ℕ) → PutsTo a at s b m → PutsTo b m (59 ∷ []) c r → PutsTo a at (ended s) c r
unfolding ended
end_behind s p q = to_then p q

pub size_ended : (s : List ℕ) {top n : ℕ} → Number (length s) top n → Number (length (ended s)) (top + 1) (n + 1)
size_ended s p = record { is = omega (arith, p.is, ended_length s); below = omega (arith, p.below) }

-- ---- 0 is blank

length_last : (k n : ℕ) → length (digits_of k n) ≡ k
unfolding digits_of
length_last zero n = refl
length_last (suc k) n = length-append (digits_of k (n / 10)) ((48 + n % 10) ∷ []) ∙ omega (arith, length_last k (n / 10))

module _ (k n : ℕ) where
  module _ (h : n ≡ 0) where
    blank : shown k n ≡ []
    unfolding shown
    blank = ap (blank_zero (digits_of k)) h

    pub blank_size : Number (length (ended (shown k n))) (k + 2) 1
    blank_size = record { is = omega (arith, ended_length (shown k n), ap length blank); below = omega arith }

    pub blank_put : {old new : List ℕ} {at r : ℕ} → PutsTo old at (59 ∷ []) new r → PutsTo old at (ended (shown k n)) new r
    unfolding ended
    blank_put {old} {new} {at} {r} p = subst (λ (s : List ℕ). PutsTo old at (s ++ (59 ∷ [])) new r) (sym blank) p

  module _ (h : n ≡ 0 → ⊥) where
    all_shown : shown k n ≡ digits_of k n
    unfolding shown
    all_shown = by n h
      where
        by : (n : ℕ) → (n ≡ 0 → ⊥) → blank_zero (digits_of k) n ≡ digits_of k n
        by zero h = absurd (h refl)
        by (suc n) h = refl

    shown_long : length (ended (shown k n)) ≡ k + 1
    shown_long = omega (arith, ended_length (shown k n), ap length all_shown, length_last k n)

    pub digits_size : Number (length (ended (shown k n))) (k + 2) (k + 1)
    digits_size = record { is = sym shown_long; below = omega arith }

    module _ {out : List ℕ} {at : ℕ} (p : RoomFor out at (ended (shown k n))) where
      pub digits_room : at + k ≤ length out
      digits_room = omega (arith, p.room, shown_long)

      pub digits_end : {new : List ℕ} {r : ℕ} → PutsTo out at (digits_of k n) new r → r < length new
      digits_end q = omega (arith, p.room, shown_long, q.ends, q.puts.long, length_last k n)

    pub digits_put : {a b c : List ℕ} {at m r : ℕ} → PutsTo a at (digits_of k n) b m → PutsTo b m (59 ∷ []) c r → PutsTo a at (ended (shown k n)) c r
    digits_put {a} {c = c} {at} {r = r} p q =
        subst (λ (s : List ℕ). PutsTo a at (ended s) c r) (sym all_shown) (end_behind (digits_of k n) p q)

  -- with all its digits it is a text's number
  module _ (e : Number (length (decimal n)) 21 k) where
    as_text : shown k n ≡ text_text n
    unfolding shown text_text
    as_text = by n (sym (as_last 20 n ∙ sym (ap (λ (j : ℕ). digits_of j n) e.is)))
      where
        by : (n : ℕ) → digits_of k n ≡ decimal n → blank_zero (digits_of k) n ≡ blank_zero decimal n
        by zero i = refl
        by (suc n) i = i

    pub text_number : {r : ℕ} → Number (length (ended (shown k n))) (k + 2) r → Number (length (ended (text_text n))) 22 r
    text_number p = record { is = omega (arith, p.is, ap (λ (s : List ℕ). length (ended s)) as_text); below = omega (arith, p.below, e.below) }

    pub text_room : {out : List ℕ} {at : ℕ} → RoomFor out at (ended (text_text n)) → RoomFor out at (ended (shown k n))
    text_room {out} {at} p = subst (λ (s : List ℕ). RoomFor out at (ended s)) (sym as_text) p

    pub text_put : {old new : List ℕ} {at r : ℕ} → PutsTo old at (ended (shown k n)) new r → PutsTo old at (ended (text_text n)) new r
    text_put {old} {new} {at} {r} p = subst (λ (s : List ℕ). PutsTo old at (ended s) new r) as_text p

-- ---- a value

cents_length : (n : ℕ) → length (ended (cents_text n)) ≡ length (decimal (n / 100)) + 4
cents_length n =
    ended_length (cents_text n)
    ∙ omega (arith, length-append (decimal (n / 100)) (46 ∷ digits_of 2 (n % 100)), length_last 2 (n % 100))

module _ {out : List ℕ} {at : ℕ} (n : ℕ) (p : RoomFor out at (ended (cents_text n))) where
  pub whole_room : RoomFor out at (decimal (n / 100))
  whole_room = record { room = omega (arith, p.room, cents_length n) }

  module _ {b : List ℕ} {m : ℕ} (q : PutsTo out at (decimal (n / 100)) b m) where
    pub point_room : m < length b
    point_room = omega (arith, p.room, cents_length n, q.ends, q.puts.long)

    module _ {b' : List ℕ} {m' : ℕ} (d : PutsTo b m (46 ∷ []) b' m') where
      pub cents_room : m' + 2 ≤ length b'
      cents_room = omega (arith, p.room, cents_length n, q.ends, q.puts.long, d.ends, d.puts.long)

      module _ {c : List ℕ} {e : ℕ} (s : PutsTo b' m' (digits_of 2 (n % 100)) c e) where
        pub cents_end : e < length c
        cents_end =
            omega (arith, p.room, cents_length n, q.ends, q.puts.long, d.ends, d.puts.long, s.ends, s.puts.long, length_last 2 (n % 100))

        pub cents_put : {f : List ℕ} {r : ℕ} → PutsTo c e (59 ∷ []) f r → PutsTo out at (ended (cents_text n)) f r
        cents_put t = end_behind (cents_text n) (to_then q (to_then d s)) t

-- four bytes with a sign, as an `i32` has them
same_sign : (n : ℕ) → n < 4294967296 → cast_signed w32 n ≡ signed_of 4 n
same_sign n h = by (ltb n 2147483648)
  where
    by : (b : Bool) → sel b (pos n) (negsuc (4294967296 - suc n)) ≡ cond b (pos n) (negsuc (4294967295 - n))
    by true = refl
    by false = ap negsuc (omega arith)

plus : (z : ℤ) → lt_z z (pos 0) ≡ false → value_text z ≡ cents_text (unsigned_abs z)
unfolding value_text
plus (pos n) h = refl
plus (negsuc n) h = cc

minus : (z : ℤ) → lt_z z (pos 0) ≡ true → value_text z ≡ 45 ∷ cents_text (unsigned_abs z)
unfolding value_text
minus (pos n) h = absurd (omega (arith, ltb-true n 0 h))
minus (negsuc n) h = refl

-- the `i32` z has the bytes of n, and is `a` cents from zero
module _ (n : ℕ) {z : ℤ} {a : ℕ} (g : n < 4294967296) (c : z ≡ cast_signed w32 n)
    (e : a ≡ unsigned_abs (cast_signed w32 (cast_unsigned w32 z))) where
  as_signed : cast_signed w32 (cast_unsigned w32 z) ≡ signed_of 4 n
  as_signed = ap (λ (y : ℤ). cast_signed w32 (cast_unsigned w32 y)) c ∙ (ap (cast_signed w32) (of_z-to_z w32 n g) ∙ same_sign n g)

  far : a ≡ unsigned_abs (signed_of 4 n)
  far = e ∙ ap unsigned_abs as_signed

  module _ (h : lt_z (cast_signed w32 (cast_unsigned w32 z)) (pos 0) ≡ false) where
    value_plus : value_text (signed_of 4 n) ≡ cents_text a
    value_plus = plus (signed_of 4 n) (sym (ap (λ (y : ℤ). lt_z y (pos 0)) as_signed) ∙ h) ∙ sym (ap cents_text far)

    pub plus_size : {m : ℕ} → Number (length (decimal (a / 100))) 21 m → Number (length (ended (value_text (signed_of 4 n)))) 30 (m + 4)
    plus_size p = record {
      is = omega (arith, p.is, cents_length a, ap (λ (s : List ℕ). length (ended s)) value_plus);
      below = omega (arith, p.below);
    }

    pub plus_room : {out : List ℕ} {at : ℕ} → RoomFor out at (ended (value_text (signed_of 4 n))) → RoomFor out at (ended (cents_text a))
    plus_room {out} {at} p = subst (λ (s : List ℕ). RoomFor out at (ended s)) value_plus p

    pub plus_put : {old new : List ℕ} {at r : ℕ} → PutsTo old at (ended (cents_text a)) new r → PutsTo old at (ended (value_text (signed_of 4 n))) new r
    plus_put {old} {new} {at} {r} p = subst (λ (s : List ℕ). PutsTo old at (ended s) new r) (sym value_plus) p

  module _ (h : lt_z (cast_signed w32 (cast_unsigned w32 z)) (pos 0) ≡ true) where
    value_minus : value_text (signed_of 4 n) ≡ 45 ∷ cents_text a
    value_minus =
        minus (signed_of 4 n) (sym (ap (λ (y : ℤ). lt_z y (pos 0)) as_signed) ∙ h) ∙ sym (ap (λ (k : ℕ). 45 ∷ cents_text k) far)

    minus_length : length (ended (value_text (signed_of 4 n))) ≡ 1 + length (ended (cents_text a))
    unfolding ended
    minus_length = ap (λ (s : List ℕ). length (ended s)) value_minus ∙ omega arith

    pub minus_size : {m : ℕ} → Number (length (decimal (a / 100))) 21 m → Number (length (ended (value_text (signed_of 4 n)))) 30 (m + 4 + 1)
    minus_size p = record { is = omega (arith, p.is, cents_length a, minus_length); below = omega (arith, p.below) }

    module _ {out : List ℕ} {at : ℕ} (p : RoomFor out at (ended (value_text (signed_of 4 n)))) where
      module _ {b : List ℕ} {m : ℕ} (d : PutsTo out at (45 ∷ []) b m) where
        pub minus_room : RoomFor b m (ended (cents_text a))
        minus_room = record { room = omega (arith, p.room, minus_length, d.ends, d.puts.long) }

        pub minus_put : {new : List ℕ} {r : ℕ} → PutsTo b m (ended (cents_text a)) new r → PutsTo out at (ended (value_text (signed_of 4 n))) new r
        unfolding ended
        minus_put {new} {r} q = subst (λ (s : List ℕ). PutsTo out at (ended s) new r) (sym value_minus) (to_then d q)
