-- Names at a place, byte strings compared, small letters raised.
use Prim.Native.Nat.{ℕ, zero, suc, ◌+◌, ◌-◌, ◌≤◌, ◌<◌}
use mathlib.Core.Path.{◌≡◌, refl, sym, ◌∙◌, ap}
use mathlib.Core.Bool.{Bool, true, false, ◌&&◌, ◌||◌, not, and-true, and-false, and_assoc}
use mathlib.Core.List.{List, [], ◌∷◌, map}
use mathlib.Core.Option.{Option, none}
use mathlib.Core.Logic.{◌⊎◌, inl, inr}
use native.Mathlib.Omega.{arith}
use native.Mathlib.Decide.{dec_lt}
use lib.Dec.{eqb, leb}
use lib.ListN.{length, take, drop, get_or, set, length-map, get_or-map}
use borrow.Author.Tests.{lt-ltb, le-ltb, ne_eqb}
use Rattle.std.specs.List.{fold, zip}
use Rattle.rules.specs.Lists.{all, between, is_some, same}
use Rattle.rules.specs.Layout.{Layout, ◌>>=◌, ◌such◌, byte, whole, wholly}
use Rattle.rules.specs.Bytes.{name, name_byte, small_letter, raise}
use Rattle.rules.proofs.TestLaws.{and_left, between_low}
use Rattle.layout.specs.Reads.{Reads, part}
use Rattle.layout.specs.Ensures.{Says, Accepts, Number, NameEnd, Puts}
use Rattle.layout.proofs.LayoutLaws.{then_reads, then_rest, such_reads, then_when, then_broken, byte_at, bytes_at, byte_cut, bytes_cut}
use Rattle.layout.proofs.StoreLaws.{Storing, store_again, store_end}

-- ---- the name
module _ (lo hi : ℕ) (s : List ℕ) (at : ℕ) where
  none_at : name lo hi (drop at s) ≡ none → NameEnd lo hi s at 0
  none_at e = record { reads = record { is = e }; low = λ h. absurd (omega arith); fits = omega arith }

  pub name_empty : length s ≤ at → NameEnd lo hi s at 0
  name_empty h = none_at (then_broken _ _ (such_reads byte (between lo hi) (byte_cut s at h)) refl)

  module _ {n top : ℕ} (size : Number (get_or s at 0) top n) where
    module _ (h : at < length s) where
      -- the bytes that the length byte speaks of
      name_of : at + 1 + n ≤ length s → Reads (name lo hi) s at (between lo hi n && all name_byte (take n (drop (at + 1) s))) (take n (drop (at + 1) s)) (at + 1 + n)
      name_of g = rw size.is (then_reads _ _ (such_reads byte (between lo hi) (byte_at s at h)) (such_reads _ (all name_byte) (bytes_at s (at + 1) (get_or s at 0) (omega arith))))

      pub name_cut : length s - (at + 1) < n → NameEnd lo hi s at 0
      name_cut g = none_at (then_none (between lo hi (get_or s at 0)) (such_reads byte (between lo hi) (byte_at s at h)))
        where
          then_none : (t : Bool) → Reads (byte such between lo hi) s at t (get_or s at 0) (at + 1) → name lo hi (drop at s) ≡ none
          then_none true p = then_when _ _ p (then_broken _ _ (bytes_cut s (at + 1) (get_or s at 0) (omega arith) (omega arith)) refl)
          then_none false p = then_broken _ _ p refl

      module _ (g : n ≤ length s - (at + 1)) {r : Bool} (all-is : Says (all name_byte (take (at + 1 + n - (at + 1)) (drop (at + 1) s))) r) where
        test : (between lo hi n && all name_byte (take n (drop (at + 1) s))) ≡ (leb lo n && leb n hi && r)
        test =
            let e : at + 1 + n - (at + 1) ≡ n = omega arith in
            ap (λ b. between lo hi n && b) (rw e at all-is.is)

        pub name_good : (leb lo n && leb n hi && r) ≡ true → NameEnd lo hi s at (at + 1 + n)
        name_good t =
            let e : at + 1 + n - (at + 1) ≡ n = omega arith in
            record {
              reads = rw (e, lt-ltb 0 (at + 1 + n) (omega arith), ← t, ← test) (name_of (omega arith));
              low = λ h. omega arith;
              fits = omega arith;
            }

        pub name_bad : (leb lo n && leb n hi && r) ≡ false → NameEnd lo hi s at 0
        name_bad t = none_at ((name_of (omega arith)).is ∙ rw (test ∙ t))

-- ---- a name is there, or not
pub name_cases : (lo hi : ℕ) (s : List ℕ) (at : ℕ) → NameEnd lo hi s at 0 ⊎ NameEnd lo hi s at (at + 1 + get_or s at 0)
name_cases lo hi s at = first (dec_lt at (length s))
  where
    n : ℕ
    n = get_or s at 0

    same : Number n (n + 1) n
    same = record { is = refl; below = omega arith }

    third : at < length s → n ≤ length s - (at + 1) → (r : Bool) → (leb lo n && leb n hi && all name_byte (take (at + 1 + n - (at + 1)) (drop (at + 1) s))) ≡ r → NameEnd lo hi s at 0 ⊎ NameEnd lo hi s at (at + 1 + n)
    third h g true e = inr (name_good lo hi s at same h g (record { is = refl }) e)
    third h g false e = inl (name_bad lo hi s at same h g (record { is = refl }) e)

    second : at < length s → Dec (length s - (at + 1) < n) → NameEnd lo hi s at 0 ⊎ NameEnd lo hi s at (at + 1 + n)
    second h (yes g) = inl (name_cut lo hi s at same h g)
    second h (no g) = third h (omega arith) (leb lo n && leb n hi && all name_byte (take (at + 1 + n - (at + 1)) (drop (at + 1) s))) refl

    first : Dec (at < length s) → NameEnd lo hi s at 0 ⊎ NameEnd lo hi s at (at + 1 + n)
    first (yes h) = second h (dec_lt (length s - (at + 1)) n)
    first (no h) = inl (name_empty lo hi s at (omega arith))

-- ---- a name in front: none, or the rest behind it
module _ {B : Type 0} {lo hi : ℕ} {s : List ℕ} {at r : ℕ} (p : NameEnd lo hi s at r) (f : List ℕ → Layout B) where
  pub name_none : r < 1 → whole (name lo hi >>= f) (drop at s) ≡ none
  name_none h = ap wholly (then_broken _ _ p.reads (le-ltb 0 r (omega arith)))

  pub name_rest : 1 ≤ r → {o : Option B} → whole (f (part s (at + 1) r)) (drop r s) ≡ o → whole (name lo hi >>= f) (drop at s) ≡ o
  name_rest h e = ap wholly (then_rest _ _ p.reads (lt-ltb 0 r (omega arith))) ∙ e

-- whatever follows: no name, or the rest decides
module _ {B : Type 0} {lo hi : ℕ} {s : List ℕ} {at a : ℕ} (p : NameEnd lo hi s at a) where
  pub no_first : (f : List ℕ → Layout B) → a < 1 → Accepts (whole (name lo hi >>= f) (drop at s)) false
  no_first f h = record { is = ap is_some (name_none p f h) }

  pub after_name : (f : List ℕ → Layout B) {r : Bool} → 1 ≤ a → Accepts (whole (f (part s (at + 1) a)) (drop a s)) r → Accepts (whole (name lo hi >>= f) (drop at s)) r
  after_name f h q = record { is = ap is_some (name_rest p f h refl) ∙ q.is }

-- ---- compared: the flag and what is left are the whole answer

same_length : (xs ys : List ℕ) → (length xs ≡ length ys → ⊥) → same xs ys ≡ false
same_length [] [] n = absurd (n refl)
same_length [] (y ∷ ys) n = refl
same_length (x ∷ xs) [] n = refl
same_length (x ∷ xs) (y ∷ ys) n = ap (λ b. eqb x y && b) (same_length xs ys (λ e. n (ap suc e))) ∙ and-false (eqb x y)

same_at : (xs ys : List ℕ) (i : ℕ) → i < length xs → (get_or xs i 0 ≡ get_or ys i 0 → ⊥) → same xs ys ≡ false
same_at [] ys i h n = absurd (omega arith)
same_at (x ∷ xs) [] i h n = refl
same_at (x ∷ xs) (y ∷ ys) zero h n = ap (λ b. b && same xs ys) (ne_eqb x y n)
same_at (x ∷ xs) (y ∷ ys) (suc i) h n = ap (λ b. eqb x y && b) (same_at xs ys i (omega arith) n) ∙ and-false (eqb x y)

module _ (xs ys : List ℕ) where
  pub compare_not : (length xs ≡ length ys → ⊥) → Says (same xs ys) false
  compare_not n = record { is = same_length xs ys n }

  pub compare_last : 1 ≤ length xs → (get_or xs (length xs - 1) 0 ≡ get_or ys (length xs - 1) 0 → ⊥) → Says (same xs ys) false
  compare_last h n = record { is = same_at xs ys (length xs - 1) (omega arith) n }

pairs_same : (ok : Bool) (xs ys : List ℕ) → length xs ≡ length ys → fold (λ ok (p : ℕ × ℕ). ok && eqb p.0 p.1) ok (zip xs ys) ≡ (ok && same xs ys)
pairs_same ok [] [] e = sym (and-true ok)
pairs_same ok [] (y ∷ ys) e = absurd (omega arith)
pairs_same ok (x ∷ xs) [] e = absurd (omega arith)
pairs_same ok (x ∷ xs) (y ∷ ys) e = pairs_same (ok && eqb x y) xs ys (omega arith) ∙ and_assoc ok (eqb x y) (same xs ys)

pub compare_all : (xs ys : List ℕ) → length xs ≡ length ys → {r : Bool} → r ≡ fold (λ ok (p : ℕ × ℕ). ok && eqb p.0 p.1) true (zip xs ys) → Says (same xs ys) r
compare_all xs ys e f = record { is = sym (f ∙ pairs_same true xs ys e) }

-- ---- raised

module _ {b : ℕ} {r : Bool} (p : Says (small_letter b) r) where
  -- there is room for the capital
  pub small_letter_lem : r ≡ true → 32 ≤ b
  small_letter_lem e = go (between 97 122 b) refl (p.is ∙ e)
    where
      go : (t : Bool) → between 97 122 b ≡ t → (t || (between 224 254 b && not (eqb b 247))) ≡ true → 32 ≤ b
      go true f h = omega (arith, between_low 97 122 b f)
      go false f h = omega (arith, between_low 224 254 b (and_left (between 224 254 b) (not (eqb b 247)) h))

  pub raised : b < 256 → r ≡ true → Number (raise b) 256 (b - 32)
  raised h e = record { is = rw (p.is, e); below = omega arith }

  pub not_raised : b < 256 → r ≡ false → Number (raise b) 256 b
  not_raised h e = record { is = rw (p.is, e); below = h }

module _ (old : List ℕ) (at : ℕ) (name out : List ℕ) (i : ℕ) (inv : Storing old at (map raise name) out i) where
  pub raise_again : {r : ℕ} → i < length name → Number (raise (get_or name i 0)) 256 r → Storing old at (map raise name) (set out (at + i) r) (i + 1)
  raise_again h p = rw (p.is, ← get_or-map raise name i 0) (store_again old at (map raise name) out i inv (rw length-map h))

  pub raise_end : at + length name ≤ length old → length name ≤ i → Puts old at (map raise name) out
  raise_end g h = store_end old at (map raise name) out i inv (rw length-map g) (rw length-map h)
