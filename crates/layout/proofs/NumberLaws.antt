-- Numbers in bytes, and tests of a byte: what the code of `numbers` computes is what the definitions say.
use Prim.Native.Nat.{ℕ, suc, ◌+◌, ◌*◌, ◌-◌, ◌/◌, ◌^◌, ◌≤◌, ◌<◌}
use mathlib.Core.Path.{◌≡◌, refl, sym, ◌∙◌, ap}
use mathlib.Core.List.{List, [], ◌∷◌, ◌++◌}
use native.Mathlib.Omega.{arith}
use native.Mathlib.Nat.{pow-succ', mul_assoc, add-mul, add_assoc}
use lib.ListN.{length, take, drop, get_or, length-drop}
use lib.Seq.{drop-cons, drop-drop, take-add, length-take-le}
use lib.IntN.{pos, negsuc, ◌-ℤ◌}
use mir.Syntax.{w64}
use mir.Val.{SFits, to_z}
use mir.ValLaws.{to_z_pos}
use borrow.Author.Tests.{lt-ltb, le-ltb}
use Rattle.rules.specs.Bytes.{big_from, big}
use Rattle.integers.proofs.FloorLaws.{flip_pos}
use Rattle.layout.specs.Ensures.{Number, SignedNumber, signed_in}

-- ---- a number is that of its halves

pub digit : (n b p q : ℕ) → (n * 256 + b) * p + q ≡ n * (256 * p) + (b * p + q)
digit n b p q = simp (add-mul, mul_assoc, add_assoc)

-- the bytes of n, and then these
pub big_from_lem : (n : ℕ) (bs : List ℕ) → big_from n bs ≡ n * 256 ^ length bs + big bs
big_from_lem n [] = omega arith
big_from_lem n (b ∷ bs) =
    let z : 0 * 256 + b ≡ b = omega arith in
    let f : big (b ∷ bs) ≡ b * 256 ^ length bs + big bs = big_from_lem (0 * 256 + b) bs ∙ ap (λ (k : ℕ). k * 256 ^ length bs + big bs) z in
    big_from_lem (n * 256 + b) bs
    ∙ (digit n b (256 ^ length bs) (big bs)
    ∙ sym (ap (λ (k : ℕ). n * 256 ^ suc (length bs) + k) f ∙ ap (λ (k : ℕ). n * k + (b * 256 ^ length bs + big bs)) (pow-succ' 256 (length bs))))

pub big_append : (n : ℕ) (xs ys : List ℕ) → big_from n (xs ++ ys) ≡ big_from (big_from n xs) ys
big_append n [] ys = refl
big_append n (x ∷ xs) ys = big_append (n * 256 + x) xs ys

one : (s : List ℕ) (at : ℕ) → at < length s → big (take 1 (drop at s)) ≡ get_or s at 0
one s at h = ap (λ t. big (take 1 t)) (drop-cons s at 0 h) ∙ omega arith

module _ (s : List ℕ) (at : ℕ) where
  module _ (j k : ℕ) (h : at + (j + k) ≤ length s) where
    pub halves : big (take (j + k) (drop at s)) ≡ big (take j (drop at s)) * 256 ^ k + big (take k (drop (at + j) s))
    halves =
        let e : length (take k (drop (at + j) s)) ≡ k = length-take-le k (drop (at + j) s) (simp length-drop (omega arith)) in
        ap big (take-add j k (drop at s))
        ∙ (big_append 0 (take j (drop at s)) (take k (drop j (drop at s)))
        ∙ (ap (λ t. big_from (big (take j (drop at s))) (take k t)) (drop-drop j at s)
        ∙ (big_from_lem (big (take j (drop at s))) (take k (drop (at + j) s))
        ∙ ap (λ n. big (take j (drop at s)) * 256 ^ n + big (take k (drop (at + j) s))) e)))

  pub four_is : {x y : ℕ} → at + 4 ≤ length s → Number (big (take 2 (drop at s))) 65536 x → Number (big (take 2 (drop (at + 2) s))) 65536 y
      → Number (big (take 4 (drop at s))) 4294967296 (x * 65536 + y)
  four_is h p q = record { is = omega (arith, halves 2 2 h); below = omega arith }

-- ---- signed numbers

-- as code reads them, by the greatest number of the width
module _ (n top : ℕ) where
  pub signed_low : top < 18446744073709551616 → n ≤ top / 2 → SignedNumber (signed_in top n) (top / 2 + 1) (to_z w64 n)
  signed_low h g = rw (to_z_pos w64 n (omega arith)) (record { is = rw (lt-ltb n (top / 2 + 1) (omega arith)); within = omega arith })

  pub signed_high : n ≤ top → top / 2 < n → SignedNumber (signed_in top n) (top / 2 + 1) (negsuc 0 -ℤ pos (top - n))
  signed_high h g = rw flip_pos (record { is = rw (le-ltb n (top / 2 + 1) (omega arith)); within = omega arith })

  pub high_fits : top < 18446744073709551616 → n ≤ top → top / 2 < n → SFits w64 (negsuc 0 -ℤ pos (top - n))
  high_fits f h g = rw flip_pos (record { sfits = omega arith })
