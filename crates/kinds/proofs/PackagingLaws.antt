-- The body of a packaging record at a place: its values, its units, and the whole.
use Prim.Native.Nat.{ℕ, zero, suc, ◌+◌, ◌*◌, ◌-◌, ◌/◌, ◌%◌, ◌≤◌}
use mathlib.Core.Path.{◌≡◌, refl, sym, ◌∙◌, ap}
use mathlib.Core.Bool.{Bool, true, false, ◌&&◌, ◌||◌, not, cond, and-true, and-false, and_assoc}
use mathlib.Core.List.{List, [], ◌∷◌, ◌++◌}
use native.Mathlib.Omega.{arith}
use lib.Dec.{eqb, ltb}
use lib.ListN.{length, take, drop, get_or}
use lib.IntN.{ℤ, pos, negsuc}
use borrow.Author.Tests.{lt-ltb, le-ltb, le-leb, lt-leb}
use Rattle.rules.specs.Lists.{all, any, is_some, same}
use Rattle.rules.specs.Layout.{◌such◌, bytes, whole, times}
use Rattle.rules.specs.Bytes.{signed, signed_of, either_side}
use Rattle.rules.specs.Book.{PackagingRecord}
use Rattle.rules.specs.BookLayout.{packaging_body, zero_unless_present, has, length_units, volume_units, weight_units, no_unit, star}
use Rattle.layout.specs.Reads.{Reads, part, positions_at}
use Rattle.layout.specs.Ensures.{Accepts, Number, Says, NameEnd}
use Rattle.layout.proofs.LayoutLaws.{then_reads, such_reads, give_reads, if_reads, byte_at, bytes_reads, signed_reads, times_reads, body_as, not_sized, sized_then, sized_give, sized_if, sized_such, sized_byte, sized_bytes, sized_signed, sized_times}
use Rattle.layout.proofs.NameLaws.{name_rest}
use Rattle.kinds.specs.Fields.{number_at, signed_at, values_at, pack_at}
use Rattle.pairs.specs.Pairs.{Named}
use Rattle.kinds.specs.Ensures.{present_ok, values_ok, unit_ok, units_ok}
use Rattle.kinds.proofs.FieldLaws.{name_empty}

-- ---- values

zero_near : (most : ℕ) (v : ℤ) → (either_side most v && either_side 0 v) ≡ either_side 0 v
zero_near most (pos zero) = rw (le-leb 0 most (omega arith))
zero_near most (pos (suc m)) = rw (lt-leb (suc m) 0 (omega arith)) (and-false (either_side most (pos (suc m))))
zero_near most (negsuc m) = rw (le-ltb m 0 (omega arith)) (and-false (either_side most (negsuc m)))

-- a value by one bound, which is 0 where it is not present
pub present_is : (s : List ℕ) (at most : ℕ) (present : Bool) {bound v : ℕ} {r : Bool} → Number (cond present most 0) 2147483648 bound
    → Number (number_at 4 s at) 4294967296 v → Says (either_side bound (signed_of 4 v)) r → Says (present_ok present most (signed_at s at)) r
present_is s at most present {bound} {v} {r} b n p = record { is = go present (rw (b.is, n.is) at p.is) }
  where
    go : (t : Bool) → either_side (cond t most 0) (signed_at s at) ≡ r → present_ok t most (signed_at s at) ≡ r
    go true e = and-true (either_side most (signed_at s at)) ∙ e
    go false e = zero_near most (signed_at s at) ∙ e

-- two tests of each of two things, in either order
and_mix : (a x b y : Bool) → ((a && x) && (b && y)) ≡ ((a && b) && (x && y))
and_mix true x true y = refl
and_mix true x false y = and-false x
and_mix false x b y = refl

record Two (a x r : Bool) : Type 0 where
  pub is : (a && x) ≡ r

both : {a x b y t u : Bool} → Two a x t → Two b y u → Two (a && b) (x && y) (t && u)
both {a} {x} {b} {y} p q = record { is = sym (and_mix a x b y) ∙ (λ i. p.is i && q.is i) }

module _ (s : List ℕ) (p : ℕ) where
  value_reads : (most n k : ℕ) → p + (k + n * 4) ≤ length s
      → Reads (times n (signed 4 such either_side most)) s (p + k) (all (λ at. either_side most (signed_at s at)) (positions_at p 4 k n)) (values_at s p k n) (p + (k + n * 4))
  value_reads most n k h = times_reads (signed 4 such either_side most) s p 4 (λ at. either_side most (signed_at s at)) (signed_at s) (λ k g. such_reads (signed 4) (either_side most) (signed_reads s p 4 k g)) n k h

  abbrev value : ℕ → ℤ
  value k = signed_at s (p + k)

  sizes : (all (either_side 10_000_000) (values_at s p 1 6) && all (either_side 10_000) (values_at s p 25 2))
      ≡ (either_side 10_000_000 (value 1) && either_side 10_000_000 (value 5) && either_side 10_000_000 (value 9) && either_side 10_000_000 (value 13)
      && either_side 10_000_000 (value 17) && either_side 10_000_000 (value 21) && either_side 10_000 (value 25) && either_side 10_000 (value 29))
  sizes = simp (and_assoc, and-true)

  abbrev absent : ℕ → ℕ → ℕ → Bool
  absent x bit k = eqb (x / bit % 2) 1 || either_side 0 (value k)

  zeros : (x : ℕ) → zero_unless_present x (values_at s p 1 6 ++ values_at s p 25 2)
      ≡ (absent x 1 1 && absent x 2 5 && absent x 4 9 && absent x 8 13 && absent x 16 17 && absent x 32 21 && absent x 64 25 && absent x 128 29)
  zeros x = simp (and_assoc, and-true)

  abbrev bounded : ℕ → ℕ → ℕ → Bool
  bounded bit most k = present_ok (eqb (get_or s p 0 / bit % 2) 1) most (value k)

  pub values_are : {t₁ t₂ t₃ t₄ t₅ t₆ t₇ t₈ : Bool}
      → Says (bounded 1 10_000_000 1) t₁ → Says (bounded 2 10_000_000 5) t₂ → Says (bounded 4 10_000_000 9) t₃ → Says (bounded 8 10_000_000 13) t₄
      → Says (bounded 16 10_000_000 17) t₅ → Says (bounded 32 10_000_000 21) t₆ → Says (bounded 64 10_000 25) t₇ → Says (bounded 128 10_000 29) t₈
      → Says (values_ok s p) (t₁ && t₂ && t₃ && t₄ && t₅ && t₆ && t₇ && t₈)
  values_are e₁ e₂ e₃ e₄ e₅ e₆ e₇ e₈ = record {
    is =
        (λ i. sizes i && zeros (get_or s p 0) i)
        ∙ (both (both (both (both (both (both (both (two 1 10_000_000 1 e₁) (two 2 10_000_000 5 e₂)) (two 4 10_000_000 9 e₃)) (two 8 10_000_000 13 e₄))
        (two 16 10_000_000 17 e₅)) (two 32 10_000_000 21 e₆)) (two 64 10_000 25 e₇)) (two 128 10_000 29 e₈)).is;
  }
    where
      two : (bit most k : ℕ) {t : Bool} → Says (bounded bit most k) t → Two (either_side most (value k)) (absent (get_or s p 0) bit k) t
      two bit most k e = record { is = e.is }

-- ---- units

pub unit_is : (u : List ℕ) (needed : Bool) (units : List (List ℕ)) {r n : Bool} → Says (any (same u) units) r → Says (same u no_unit) n → Says (unit_ok needed units u) (r || (n && not needed))
unit_is u needed units e n = record { is = rw (e.is, n.is) }

pub units_are : (s : List ℕ) (p x : ℕ) {b₀ b₁ b₂ b₃ b₄ b₅ t₁ t₂ t₃ : Bool}
    → Says (eqb (x / 1 % 2) 1) b₀ → Says (eqb (x / 2 % 2) 1) b₁ → Says (eqb (x / 4 % 2) 1) b₂ → Says (eqb (x / 8 % 2) 1) b₃ → Says (eqb (x / 16 % 2) 1) b₄ → Says (eqb (x / 32 % 2) 1) b₅
    → Says (unit_ok (b₀ || (b₁ || b₂)) length_units (take 3 (drop (p + 33) s))) t₁ → Says (unit_ok b₃ volume_units (take 3 (drop (p + 36) s))) t₂
    → Says (unit_ok (b₄ || b₅) weight_units (take 3 (drop (p + 39) s))) t₃ → Says (units_ok s p x) (t₁ && t₂ && t₃)
units_are s p x i₀ i₁ i₂ i₃ i₄ i₅ e₁ e₂ e₃ = record { is = rw (i₀.is, i₁.is, i₂.is, i₃.is, i₄.is, i₅.is, e₁.is, e₂.is, e₃.is) }

-- ---- the body
module _ {s : List ℕ} {at a : ℕ} (p : NameEnd 1 40 s at a) (h : 1 ≤ a) {b : ℕ} (q : NameEnd 0 20 s a b) (g : 1 ≤ b) where
  pub packaging_no : (length s - b ≡ 42 → ⊥) → Accepts (whole packaging_body (drop at s)) false
  packaging_no n = record {
    is = ap is_some (name_rest p _ h (name_rest q _ g (not_sized _ (
        sized_then _ _ sized_byte λ x. sized_then _ _ (sized_times (signed 4 such either_side 10_000_000) (sized_such (signed 4) (either_side 10_000_000) (sized_signed 4)) 6) λ physical.
        sized_then _ _ (sized_times (signed 4 such either_side 10_000) (sized_such (signed 4) (either_side 10_000) (sized_signed 4)) 2) λ counts.
        sized_then _ _ (sized_if (zero_unless_present x (physical ++ counts)) tt) λ u.
        sized_then _ _ (sized_such (bytes 3) (unit_ok (has 0 x || (has 1 x || has 2 x)) length_units) (sized_bytes 3)) λ length_unit.
        sized_then _ _ (sized_such (bytes 3) (unit_ok (has 3 x) volume_units) (sized_bytes 3)) λ volume_unit.
        sized_then _ _ (sized_such (bytes 3) (unit_ok (has 4 x || has 5 x) weight_units) (sized_bytes 3)) λ weight_unit.
        sized_then _ _ (sized_if (not (same (part s (at + 1) a) star && eqb (length (part s (a + 1) b)) 0)) tt) λ v. sized_give) s b n)));
  }

  module _ (n : length s - b ≡ 42) where
    abbrev present : ℕ
    present = get_or s b 0

    pub packaging_reads : Reads packaging_body s at (ltb 0 a && (ltb 0 b && (all (either_side 10_000_000) (values_at s b 1 6) && (all (either_side 10_000) (values_at s b 25 2)
        && (zero_unless_present present (values_at s b 1 6 ++ values_at s b 25 2)
        && (unit_ok (has 0 present || (has 1 present || has 2 present)) length_units (take 3 (drop (b + 33) s)) && (unit_ok (has 3 present) volume_units (take 3 (drop (b + 36) s))
        && (unit_ok (has 4 present || has 5 present) weight_units (take 3 (drop (b + 39) s)) && (not (same (part s (at + 1) a) star && eqb (length (part s (a + 1) b)) 0) && true)))))))))
        (PackagingRecord (pack_at s at a b)) (b + 42)
    unfolding pack_at
    packaging_reads =
        then_reads _ _ p.reads (then_reads _ _ q.reads (then_reads _ _ (byte_at s b (omega arith))
        (then_reads _ _ (value_reads s b 10_000_000 6 1 (omega arith)) (then_reads _ _ (value_reads s b 10_000 2 25 (omega arith))
        (then_reads _ _ (if_reads (zero_unless_present present (values_at s b 1 6 ++ values_at s b 25 2)) tt)
        (then_reads _ _ (such_reads (bytes 3) (unit_ok (has 0 present || (has 1 present || has 2 present)) length_units) (bytes_reads s b 3 33 (omega arith)))
        (then_reads _ _ (such_reads (bytes 3) (unit_ok (has 3 present) volume_units) (bytes_reads s b 3 36 (omega arith)))
        (then_reads _ _ (such_reads (bytes 3) (unit_ok (has 4 present || has 5 present) weight_units) (bytes_reads s b 3 39 (omega arith)))
        (then_reads _ _ (if_reads (not (same (part s (at + 1) a) star && eqb (length (part s (a + 1) b)) 0)) tt) give_reads)))))))))

    packaging_is : {t₁ t₂ t₃ : Bool} → Says (values_ok s b) t₁ → Says (units_ok s b present) t₂ → Says (same (part s (at + 1) a) (42 ∷ [])) t₃
        → Accepts (whole packaging_body (drop at s)) (t₁ && t₂ && not (t₃ && eqb (a + 1) b))
    packaging_is e₁ e₂ e₃ =
        body_as packaging_body packaging_reads (omega arith)
        (rw (lt-ltb 0 a h, lt-ltb 0 b g, e₃.is, name_empty q g, ← e₁.is, ← e₂.is) (simp (and_assoc, and-true)))

-- behind both names
module _ {s : List ℕ} {b : ℕ} (p : Named s 1 b) where
  pub packaging_size : (length s - b ≡ 42 → ⊥) → Accepts (whole packaging_body (drop 1 s)) false
  packaging_size = packaging_no p.first (omega arith) p.second (omega (arith, p.low))

  pub packaging_all : {w : ℕ} {t₁ t₂ t₃ : Bool} → length s - b ≡ 42 → Number (get_or s 1 0) 256 w → Says (values_ok s b) t₁ → Says (units_ok s b (get_or s b 0)) t₂
      → Says (same (take (2 + w - 2) (drop 2 s)) (42 ∷ [])) t₃ → Accepts (whole packaging_body (drop 1 s)) (t₁ && t₂ && not (t₃ && eqb (2 + w + 1) b))
  packaging_all n size e₁ e₂ e₃ = rw size.is (packaging_is p.first (omega arith) p.second (omega (arith, p.low)) n e₁ e₂ (rw size.is at e₃))
