-- Bytes written at a place: one by one, one field behind the other, a number by its halves, and what was written is read back.
use Prim.Native.Nat.{ℕ, zero, suc, ◌+◌, ◌*◌, ◌-◌, ◌/◌, ◌%◌, ◌^◌, ◌≤◌, ◌<◌}
use mathlib.Core.Path.{◌≡◌, refl, sym, ◌∙◌, ap, ap₂}
use mathlib.Core.List.{List, [], ◌∷◌, ◌++◌, append_assoc}
use native.Mathlib.Omega.{arith}
use native.Mathlib.Numerals.{add-one}
use native.Mathlib.Nat.{add-zero, zero-add, zero-mul, add-suc, suc-add, add_comm, one-le-pow, pow-succ', two-pow-succ, mod-lt, mod-mod, mod-eq_of_lt, div-div-eq-div-mul}
use lib.Arith.{mod-mul, digits_div, digits_mod}
use lib.Pow.{pow-add}
use lib.ListN.{length, take, drop, get_or, set, replicate, length-append, length-set, drop_of_length-le}
use lib.Seq.{get_or-set_other, sets, sets-eq, length-sets, take_at, drop_at, drop-cons, length-take-le}
use lib.IntN.{ℤ, pos, negsuc, nat_abs, ◌-ℤ◌}
use lib.Signed.{mag, ◌≤ℤ◌, ◌<ℤ◌}
use lib.Dec.{ltb}
use mathlib.Core.Bool.{false}
use borrow.Author.Tests.{lt-ltb, le-ltb}
use Rattle.integers.proofs.Signed.{lt_in}
use Rattle.integers.proofs.FloorLaws.{flip_neg}
use Rattle.rules.specs.Refusals.{over}
use Rattle.rules.specs.Bytes.{big_from, big, bytes_of, twos, signed_of, signed_bytes_of}
use Rattle.layout.specs.Ensures.{Number, FitsSigned, Puts, PutsTo, twos_in}
use Rattle.layout.proofs.NumberLaws.{digit}

-- ---- what stands behind that which counts

-- one and the same at every place, and behind the last
pub all_same : {A : Type 0} (n i : ℕ) (x : A) → get_or (replicate n x) i x ≡ x
all_same zero i x = refl
all_same (suc n) zero x = refl
all_same (suc n) (suc i) x = all_same n i x

-- a store leaves what stands behind it
pub behind_store : {A : Type 0} (l : List A) (n : ℕ) (a x : A) → ((i : ℕ) → n < i → get_or l i x ≡ x) → (i : ℕ) → n < i → get_or (set l n a) i x ≡ x
behind_store l n a x h i k = get_or-set_other l n i a x (λ e. omega arith) ∙ h i k

-- ---- stores, one after the other

pub sets_sets : (vs ws l : List ℕ) (i : ℕ) → sets (sets l i vs) (i + length vs) ws ≡ sets l i (vs ++ ws)
sets_sets [] ws l i = ap (λ (k : ℕ). sets l k ws) (add-zero i)
sets_sets (v ∷ vs) ws l i = ap (λ (k : ℕ). sets (sets (set l i v) (suc i) vs) k ws) (add-suc i (length vs) ∙ sym (suc-add i (length vs))) ∙ sets_sets vs ws (set l i v) (suc i)

pub puts_of : {old : List ℕ} {at : ℕ} {bs new : List ℕ} → at + length bs ≤ length old → new ≡ sets old at bs → Puts old at bs new
puts_of {old} {at} {bs} h e = record {
  is = e ∙ (sets-eq bs old at h ∙ append_assoc (take at old) bs (drop (at + length bs) old));
  room = h;
  long = ap length e ∙ length-sets old at bs;
}

pub sets_of : {old : List ℕ} {at : ℕ} {bs new : List ℕ} → Puts old at bs new → new ≡ sets old at bs
sets_of {old} {at} {bs} p = p.is ∙ sym (sets-eq bs old at p.room ∙ append_assoc (take at old) bs (drop (at + length bs) old))

module _ {old : List ℕ} {at : ℕ} {bs new : List ℕ} (p : Puts old at bs new) where
  -- the bytes stand there
  pub puts_there : (k : ℕ) → length bs ≡ k → take k (drop at new) ≡ bs
  puts_there k e =
      ap (λ l. take k (drop at l)) p.is
      ∙ (ap (take k) (drop_at (take at old) (bs ++ drop (at + length bs) old) at (length-take-le at old (omega (arith, p.room))))
      ∙ take_at bs (drop (at + length bs) old) k e)

  -- and then others behind them
  pub puts_then : {at' : ℕ} {cs last : List ℕ} → at + length bs ≡ at' → Puts new at' cs last → Puts old at (bs ++ cs) last
  puts_then {cs} e q = puts_of (simp length-append (omega (arith, p.long, q.room))) (sets_of q ∙ (ap₂ (λ l (i : ℕ). sets l i cs) (sets_of p) (sym e) ∙ sets_sets bs cs old at))

-- bytes put at the very front go over what was there
pub puts_front : {old bs new : List ℕ} → Puts old 0 bs new → new ≡ over bs old
puts_front {old} {bs} p = p.is ∙ ap (λ (k : ℕ). bs ++ drop k old) (zero-add (length bs))

-- ---- byte by byte

-- the bytes so far are stored, and those that are left make up the whole
pub record Storing (old : List ℕ) (at : ℕ) (bytes out : List ℕ) (i : ℕ) : Type 0 where
  pub rest : sets out (at + i) (drop i bytes) ≡ sets old at bytes
  pub long : length out ≡ length old

module _ (old : List ℕ) (at : ℕ) (bytes : List ℕ) where
  pub store_start : Storing old at bytes old 0
  store_start = record { rest = rw add-zero; long = refl }

  module _ (out : List ℕ) (i : ℕ) (inv : Storing old at bytes out i) where
    pub store_again : i < length bytes → Storing old at bytes (set out (at + i) (get_or bytes i 0)) (i + 1)
    store_again h =
        let e : at + (i + 1) ≡ suc (at + i) = omega arith in
        record { rest = rw (e, add-one) (sym (ap (sets out (at + i)) (drop-cons bytes i 0 h)) ∙ inv.rest); long = length-set out (at + i) (get_or bytes i 0) ∙ inv.long }

    pub store_end : at + length bytes ≤ length old → length bytes ≤ i → Puts old at bytes out
    store_end g h = puts_of g (sym (ap (sets out (at + i)) (drop_of_length-le bytes h)) ∙ inv.rest)

-- nothing, and one byte string behind the other
pub to_nothing : {old : List ℕ} {at : ℕ} → at ≤ length old → PutsTo old at [] old at
to_nothing h = record { puts = puts_of (omega arith) refl; ends = omega arith }

pub to_then : {a b c xs ys : List ℕ} {at m r : ℕ} → PutsTo a at xs b m → PutsTo b m ys c r → PutsTo a at (xs ++ ys) c r
to_then {xs = xs} {ys} p q = record { puts = puts_then p.puts (sym p.ends) q.puts; ends = omega (arith, p.ends, q.ends, length-append xs ys) }

-- ---- the bytes of a number

module _ (k : ℕ) where
  some_power : 0 < 256 ^ k
  some_power = one-le-pow k 256 (omega arith)

  -- the topmost of suc k bytes, and the others
  mod_suc : (n : ℕ) → n % 256 ^ suc k ≡ (n / 256 ^ k % 256) * 256 ^ k + n % 256 ^ k
  mod_suc n = ap (λ (p : ℕ). n % p) (pow-succ' 256 k) ∙ mod-mul n (omega arith) some_power

  top_byte : (n : ℕ) → n % 256 ^ suc k / 256 ^ k ≡ n / 256 ^ k % 256
  top_byte n = ap (λ (m : ℕ). m / 256 ^ k) (mod_suc n) ∙ digits_div (n / 256 ^ k % 256) (mod-lt n some_power)

  other_bytes : (n : ℕ) → n % 256 ^ suc k % 256 ^ k ≡ n % 256 ^ k
  other_bytes n = ap (λ (m : ℕ). m % 256 ^ k) (mod_suc n) ∙ digits_mod (n / 256 ^ k % 256) (mod-lt n some_power)

pub length_bytes : (k n : ℕ) → length (bytes_of k n) ≡ k
length_bytes zero n = refl
length_bytes (suc k) n = ap suc (length_bytes k n)

-- numbers that differ above the k-th byte only have the same k bytes
bytes_same : (k m n : ℕ) → m % 256 ^ k ≡ n % 256 ^ k → bytes_of k m ≡ bytes_of k n
bytes_same zero m n e = refl
bytes_same (suc k) m n e =
    ap₂ (λ (b : ℕ) bs. b ∷ bs) (sym (top_byte k m) ∙ (ap (λ (x : ℕ). x / 256 ^ k) e ∙ top_byte k n))
    (bytes_same k m n (sym (other_bytes k m) ∙ (ap (λ (x : ℕ). x % 256 ^ k) e ∙ other_bytes k n)))

bytes_append : (j k n : ℕ) → bytes_of (j + k) n ≡ bytes_of j (n / 256 ^ k) ++ bytes_of k n
bytes_append zero k n = ap (λ (i : ℕ). bytes_of i n) (zero-add k)
bytes_append (suc j) k n =
    ap (λ (i : ℕ). bytes_of i n) (suc-add j k)
    ∙ ap₂ (λ (x : ℕ) bs. x % 256 ∷ bs) (ap (λ (p : ℕ). n / p) (ap (λ (i : ℕ). 256 ^ i) (add_comm j k) ∙ pow-add 256 k j) ∙ sym (div-div-eq-div-mul n (256 ^ k) (256 ^ j))) (bytes_append j k n)

-- a number's bytes are those of its halves
pub bytes_halves : (j k n : ℕ) → bytes_of (j + k) n ≡ bytes_of j (n / 256 ^ k) ++ bytes_of k (n % 256 ^ k)
bytes_halves j k n = bytes_append j k n ∙ ap (λ bs. bytes_of j (n / 256 ^ k) ++ bs) (bytes_same k n (n % 256 ^ k) (sym (mod-mod n (256 ^ k))))

puts_halves : {a b c : List ℕ} {at : ℕ} (j k n : ℕ) → Puts a at (bytes_of j (n / 256 ^ k)) b → Puts b (at + j) (bytes_of k (n % 256 ^ k)) c → Puts a at (bytes_of (j + k) n) c
puts_halves {at} j k n p q = rw bytes_halves (puts_then p (ap (λ (i : ℕ). at + i) (length_bytes j (n / 256 ^ k))) q)

module _ {s : List ℕ} {at : ℕ} where
  pub puts_two : (n : ℕ) → n < 65536 → at + 2 ≤ length s → Puts s at (bytes_of 2 n) (set (set s at (n / 256)) (at + 1) (n % 256))
  puts_two n h g = puts_of g (
      let high : n / 256 ≡ n / 256 % 256 = omega arith in
      let low : n % 256 ≡ n / 1 % 256 = omega arith in
      ap₂ (λ (x y : ℕ). set (set s at x) (at + 1) y) high low ∙ ap (λ (i : ℕ). set (set s at (n / 256 % 256)) i (n / 1 % 256)) (add-one at))

  module _ {t u : List ℕ} (n : ℕ) where
    pub puts_four : Puts s at (bytes_of 2 (n / 65536)) t → Puts t (at + 2) (bytes_of 2 (n % 65536)) u → Puts s at (bytes_of 4 n) u
    puts_four p q = puts_halves 2 2 n p q

    pub puts_eight : Puts s at (bytes_of 4 (n / 4294967296)) t → Puts t (at + 4) (bytes_of 4 (n % 4294967296)) u → Puts s at (bytes_of 8 n) u
    puts_eight p q = puts_halves 4 4 n p q

-- ---- the bytes of a signed number, as code makes them by the greatest number of the width

pub twos_low : (v : ℤ) (top : ℕ) → pos 0 ≤ℤ v → mag v ≤ top → Number (twos_in top v) (top + 1) (nat_abs v)
twos_low (pos n) top h g = record { is = refl; below = omega arith }
twos_low (negsuc n) top h g = absurd h.le

pub twos_room : (v : ℤ) (top : ℕ) → v <ℤ pos 0 → mag v ≤ top → nat_abs (negsuc 0 -ℤ v) ≤ top
twos_room (pos n) top h g = absurd (omega (arith, lt_in h))
twos_room (negsuc n) top h g = rw flip_neg g

pub twos_high : (v : ℤ) (top : ℕ) → v <ℤ pos 0 → mag v ≤ top → Number (twos_in top v) (top + 1) (top - nat_abs (negsuc 0 -ℤ v))
twos_high (pos n) top h g = absurd (omega (arith, lt_in h))
twos_high (negsuc n) top h g = rw flip_neg (record { is = refl; below = omega arith })

-- ---- read back

big_bytes : (m k n : ℕ) → big_from m (bytes_of k n) ≡ m * 256 ^ k + n % 256 ^ k
big_bytes m zero n = omega arith
big_bytes m (suc k) n =
    big_bytes (m * 256 + n / 256 ^ k % 256) k n
    ∙ (digit m (n / 256 ^ k % 256) (256 ^ k) (n % 256 ^ k)
    ∙ ap₂ (λ (p r : ℕ). m * p + r) (sym (pow-succ' 256 k)) (sym (mod_suc k n)))

pub number_back : (k n : ℕ) → n < 256 ^ k → big (bytes_of k n) ≡ n
number_back k n h = big_bytes 0 k n ∙ (simp (zero-mul, zero-add) (mod-eq_of_lt h))

-- A number written as k bytes and read as k bytes is the same number, for every width, place and number that fits.
pub read_back : {old new : List ℕ} {at : ℕ} (k n : ℕ) → n < 256 ^ k → Puts old at (bytes_of k n) new → big (take k (drop at new)) ≡ n
read_back k n h p = ap big (puts_there p k (length_bytes k n)) ∙ number_back k n h

-- ---- and with a sign

powers : (k : ℕ) → 256 ^ k ≡ 2 ^ (8 * k)
powers zero = refl
powers (suc k) =
    let e : 8 * suc k ≡ 8 + 8 * k = omega arith in
    pow-succ' 256 k ∙ (ap (λ (p : ℕ). 256 * p) (powers k) ∙ sym (ap (λ (i : ℕ). 2 ^ i) e ∙ pow-add 2 8 (8 * k)))

module _ (k : ℕ) where
  pub fits_near : (z : ℤ) → nat_abs z < 2 ^ (8 * k - 1) → FitsSigned k z
  fits_near (pos n) h = record { fits = h }
  fits_near (negsuc n) h = record { fits = omega arith }

  module _ (h : 1 ≤ k) where
    two_halves : 2 ^ (8 * k) ≡ 2 ^ (8 * k - 1) + 2 ^ (8 * k - 1)
    two_halves =
        let e : 8 * k ≡ suc (8 * k - 1) = omega arith in
        ap (λ (i : ℕ). 2 ^ i) e ∙ two-pow-succ (8 * k - 1)

    twos_below : (z : ℤ) → FitsSigned k z → twos k z < 256 ^ k
    twos_below (pos n) f = omega (arith, powers k, two_halves, f.fits)
    twos_below (negsuc n) f = omega (arith, powers k, two_halves, f.fits)

    -- two's complement loses nothing
    pub twos_back : (z : ℤ) → FitsSigned k z → signed_of k (twos k z) ≡ z
    twos_back (pos n) f = rw (lt-ltb n (2 ^ (8 * k - 1)) f.fits)
    twos_back (negsuc n) f =
        let e : ltb (2 ^ (8 * k) - 1 - n) (2 ^ (8 * k - 1)) ≡ false = le-ltb (2 ^ (8 * k) - 1 - n) (2 ^ (8 * k - 1)) (omega (arith, two_halves, f.fits)) in
        rw e (ap negsuc (omega (arith, two_halves, f.fits)))

    -- nor do its bytes
    pub bytes_back : (z : ℤ) → FitsSigned k z → signed_of k (big (signed_bytes_of k z)) ≡ z
    bytes_back z f = ap (signed_of k) (number_back k (twos k z) (twos_below z f)) ∙ twos_back z f

    -- A signed number written as k bytes and read as k bytes is the same number, below zero too, for every width of at least a byte.
    pub signed_read_back : {old new : List ℕ} {at : ℕ} (z : ℤ) → FitsSigned k z → Puts old at (signed_bytes_of k z) new → signed_of k (big (take k (drop at new))) ≡ z
    signed_read_back z f p = ap (λ bs. signed_of k (big bs)) (puts_there p k (length_bytes k (twos k z))) ∙ bytes_back z f
