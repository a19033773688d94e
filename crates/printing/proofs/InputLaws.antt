-- The parts of the program's input: a length that the bytes do not have ends with them.
use Prim.Native.Nat.{ℕ, suc, ◌+◌, ◌*◌, ◌^◌, ◌≤◌, ◌<◌, min}
use mathlib.Core.Path.{◌≡◌, refl, sym, ◌∙◌, ap}
use mathlib.Core.List.{List}
use native.Mathlib.Omega.{arith}
use native.Mathlib.Nat.{pow-suc, lt_of_lt_of_le, pow-le-pow_right}
use lib.ListN.{length, take, drop, get_or}
use lib.Seq.{take_all, take-suc}
use Rattle.std.proofs.Math.Nat.{min-le_right}
use Rattle.std.proofs.lemmas.List.{take_min, drop_min}
use borrow.Author.Tests.{eq-eqb, ne_eqb}
use Rattle.rules.specs.Bytes.{big, own_length}
use Rattle.rules.specs.Program.{end_of}
use Rattle.layout.specs.Ensures.{Number}
use Rattle.layout.proofs.NumberLaws.{big_append}
use Rattle.printing.specs.Input.{Reading, FrontIs}

-- ---- the length in front

-- a number of i bytes, of at most k
under : (k n i : ℕ) → i ≤ k → n < 256 ^ i → n < 256 ^ k
under k n i h l = lt_of_lt_of_le l (pow-le-pow_right (omega arith) h)

pub read_start : (s : List ℕ) → length s ≤ 4 → Reading s 0 0
read_start s h = record { place = omega arith; few = h; is = refl; small = omega arith }

module _ {s : List ℕ} {n i : ℕ} (r : Reading s n i) where
  pub read_on : i < length s → {b : ℕ} → Number (get_or s i 0) 256 b → Reading s (n * 256 + b) (i + 1)
  read_on h {b} e =
      let j : i + 1 ≡ suc i = omega arith in
      let p : 256 ^ suc i ≡ 256 ^ i * 256 = pow-suc 256 i in
      record {
        place = omega arith;
        few = r.few;
        is = (λ x. r.is x * 256 + e.is x) ∙ sym (ap (λ (x : ℕ). big (take x s)) j ∙ ap big (take-suc s i 0 h) ∙ big_append 0 (take i s) _);
        small = rw j (omega (arith, r.small, e.below, p));
      }

  pub read_fits : i < length s → n < 2 ^ 24
  read_fits h = under 3 n i (omega (arith, r.few)) r.small

  pub read_end : (whole : List ℕ) → s ≡ take (min 4 (length whole)) whole → length s ≤ i → Number (own_length whole) (2 ^ 32) n
  read_end whole f h =
      record {
        is = r.is ∙ ap big (take_all i s h ∙ f ∙ take_min 4 whole);
        below = under 4 n i (omega (arith, r.place, r.few)) r.small;
      }

-- ---- the part in front

pub front_is : (s : List ℕ) {n : ℕ} → Number (own_length s) (2 ^ 32) n → FrontIs s (min n (length s))
front_is s {n} e = record {
  fits = min-le_right n (length s);
  front = take_min n s ∙ ap (λ (k : ℕ). take k s) e.is;
  rest = drop_min n s ∙ ap (λ (k : ℕ). drop k s) e.is;
}

-- ---- the end date

pub end_read : (s : List ℕ) {n : ℕ} → length s ≡ 4 → Number (big (take 4 (drop 0 s))) 4294967296 n → n ≡ end_of s
end_read s h e = e.is ∙ ap big (take_all 4 s (omega arith)) ∙ sym (rw (eq-eqb (length s) 4 h))

pub end_none : (s : List ℕ) → (length s ≡ 4 → ⊥) → 0 ≡ end_of s
end_none s h = sym (rw (ne_eqb (length s) 4 h))
