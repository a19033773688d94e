-- Digits printed one behind the other.
use Prim.Native.Nat.{ℕ, zero, suc, ◌+◌, ◌-◌, ◌/◌, ◌%◌, ◌≤◌, ◌<◌}
use mathlib.Core.Path.{◌≡◌, refl, sym, ◌∙◌, ap, subst}
use mathlib.Core.Bool.{Bool, true, false}
use mathlib.Core.List.{List, [], ◌∷◌, ◌++◌}
use native.Mathlib.Omega.{arith}
use lib.Dec.{ltb}
use lib.ListN.{length, length-append, set}
use lib.IntN.{ℤ, pos, negsuc, nat_abs}
use lib.Signed.{◌≤ℤ◌, ◌<ℤ◌}
use borrow.Author.Tests.{lt-ltb, le-ltb}
use Rattle.integers.proofs.Signed.{lt_in}
use Rattle.rules.specs.Letters.{letter}
use Rattle.rules.specs.Program.{digits, decimal, signed_decimal}
use Rattle.layout.specs.Ensures.{Puts, PutsTo}
use Rattle.layout.proofs.StoreLaws.{puts_of, puts_then}
use Rattle.printing.specs.Ensures.{sign_of}

-- ---- bytes printed at a place, and others behind them

pub prints_none : (out : List ℕ) (at : ℕ) → at ≤ length out → PutsTo out at [] out at
prints_none out at h = record { puts = puts_of (omega arith) refl; ends = omega arith }

pub prints_one : (out : List ℕ) (at b : ℕ) → at < length out → PutsTo out at (b ∷ []) (set out at b) (at + 1)
prints_one out at b h = record { puts = puts_of (omega arith) refl; ends = omega arith }

module _ {old : List ℕ} {at : ℕ} {bs new : List ℕ} {r : ℕ} (p : PutsTo old at bs new r) where
  pub prints_then : {cs last : List ℕ} {s : ℕ} → PutsTo new r cs last s → PutsTo old at (bs ++ cs) last s
  prints_then {cs} {last} q =
      record {
        puts = puts_then p.puts refl (subst (λ (k : ℕ). Puts new k cs last) p.ends q.puts);
        ends = simp length-append (omega (arith, p.ends, q.ends));
      }

-- ---- digits

pub few_digits : (k n : ℕ) → length (digits k n) ≤ k
unfolding digits
few_digits zero n = omega arith
few_digits (suc k) n = go (ltb n 10) (few_digits k (n / 10))
  where
    go : (b : Bool) → length (digits k (n / 10)) ≤ k → length {A = ℕ} (elim b as (λ _. List ℕ) [ true ↦ (letter "0" + n) ∷ [] | false ↦ digits k (n / 10) ++ ((letter "0" + n % 10) ∷ []) ]) ≤ suc k
    go true h = omega arith
    go false h = simp length-append (omega arith)

digits_one : (k n : ℕ) → n < 10 → digits (suc k) n ≡ (letter "0" + n) ∷ []
unfolding digits
digits_one k n h = rw (digits, lt-ltb n 10 h)

digits_more : (k n : ℕ) → 10 ≤ n → digits (suc k) n ≡ digits k (n / 10) ++ ((letter "0" + n % 10) ∷ [])
unfolding digits
digits_more k n h = rw (digits, le-ltb n 10 h)

-- ---- as the function prints them

suc_of : (k : ℕ) → (k ≡ 0 → ⊥) → suc (k - 1) ≡ k
suc_of k h = omega arith

pub no_digits : (out : List ℕ) (at k n : ℕ) → at + k ≤ length out → k ≡ 0 → PutsTo out at (digits k n) out at
unfolding digits
no_digits out at k n h e = subst (λ (j : ℕ). PutsTo out at (digits j n) out at) (sym e) (prints_none out at (omega arith))

pub last_digit : (out : List ℕ) (at k n : ℕ) → at + k ≤ length out → (k ≡ 0 → ⊥) → n < 10 → PutsTo out at (digits k n) (set out at (48 + n)) (at + 1)
last_digit out at k n h z l =
    subst (λ (bs : List ℕ). PutsTo out at bs (set out at (48 + n)) (at + 1)) (sym (digits_one (k - 1) n l) ∙ ap (λ (j : ℕ). digits j n) (suc_of k z))
    (prints_one out at (48 + n) (omega arith))

module _ {out : List ℕ} {at k n : ℕ} (h : at + k ≤ length out) (z : k ≡ 0 → ⊥) (l : 10 ≤ n) {front : List ℕ} {end : ℕ} (p : PutsTo out at (digits (k - 1) (n / 10)) front end) where
  pub digit_room : end < length front
  digit_room = omega (arith, p.ends, p.puts.long, few_digits (k - 1) (n / 10))

  pub more_digits : PutsTo out at (digits k n) (set front end (48 + n % 10)) (end + 1)
  more_digits =
      subst (λ (bs : List ℕ). PutsTo out at bs (set front end (48 + n % 10)) (end + 1)) (sym (digits_more (k - 1) n l) ∙ ap (λ (j : ℕ). digits j n) (suc_of k z))
      (prints_then p (prints_one front end (48 + n % 10) digit_room))

-- ---- with a sign

pub no_sign : (out : List ℕ) (at : ℕ) (z : ℤ) → at < length out → pos 0 ≤ℤ z → PutsTo out at (sign_of z) out at
no_sign out at (pos n) h l = prints_none out at (omega arith)
no_sign out at (negsuc n) h l = absurd l.le

pub one_sign : (out : List ℕ) (at : ℕ) (z : ℤ) → at < length out → z <ℤ pos 0 → PutsTo out at (sign_of z) (set out at 45) (at + 1)
one_sign out at (pos n) h l = absurd (omega (arith, lt_in l))
one_sign out at (negsuc n) h l = prints_one out at 45 h

few_signs : (z : ℤ) → length (sign_of z) ≤ 1
few_signs (pos n) = omega arith
few_signs (negsuc n) = omega arith

by_sign : (z : ℤ) → sign_of z ++ decimal (nat_abs z) ≡ signed_decimal z
by_sign (pos n) = refl
by_sign (negsuc n) = refl

module _ {out : List ℕ} {at : ℕ} (z : ℤ) (h : at + 21 ≤ length out) {front : List ℕ} {start : ℕ} (p : PutsTo out at (sign_of z) front start) where
  pub signed_room : start + 20 ≤ length front
  signed_room = omega (arith, p.ends, p.puts.long, few_signs z)

  pub signed_prints : {n : ℕ} → n ≡ nat_abs z → {last : List ℕ} {r : ℕ} → PutsTo front start (digits 20 n) last r → PutsTo out at (signed_decimal z) last r
  signed_prints e {last} {r} q =
      subst (λ (bs : List ℕ). PutsTo out at bs last r) (by_sign z) (prints_then p (subst (λ (k : ℕ). PutsTo front start (digits 20 k) last r) e q))
