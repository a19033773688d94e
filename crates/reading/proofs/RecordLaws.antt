-- One record: how long it is, what its kind says, and when its text has a number.
use Prim.Native.Nat.{ℕ, suc, ◌+◌, ◌%◌, ◌≤◌, ◌<◌}
use mathlib.Core.Path.{◌≡◌, refl, sym, ◌∙◌, ap, ap₂}
use mathlib.Core.Bool.{Bool, true, false, cond}
use mathlib.Core.List.{List, [], ◌∷◌, ◌++◌}
use native.Mathlib.Omega.{arith}
use lib.Dec.{leb}
use lib.ListN.{length, drop, get_or, set, length-set, length-append}
use lib.Seq.{get_or-set_same}
use borrow.Author.Tests.{le-leb, lt-leb, leb-false, leb-true}
use Rattle.rules.specs.Lists.{same}
use Rattle.rules.specs.Bytes.{bytes_of}
use Rattle.rules.specs.Book.{Row}
use Rattle.rules.specs.RowBytes.{name_bytes, value_bytes, row_bytes}
use Rattle.file_rules.specs.PriceLine.{NamedRow, is_empty}
use Rattle.file_rules.specs.PriceFile.{place_in, with_text}
use Rattle.file_rules.proofs.NumberingLaws.{after}
use Rattle.layout.proofs.StoreLaws.{bytes_halves}
use Rattle.price_line.specs.declared.PriceLine.{PriceLine}
use Rattle.price_line.specs.Line.{row_on, LineIs}
use Rattle.price_record.proofs.SizeLaws.{row_length}
use Rattle.reading.specs.Rows.{waiting, record_at, number_of, records_at}

-- ---- its length

pub record_size : (c t : ℕ) (r : Row) → length (record_at c t r) ≡ 31 + length r.article + length r.condition + length r.currency
unfolding record_at waiting
record_size c t r = by (leb t c)
  where
    by : (b : Bool)
        → length (cond b (row_bytes (with_text t r)) (set (row_bytes (with_text 0 r)) 2 0))
        ≡ 31 + length r.article + length r.condition + length r.currency
    by true = row_length (with_text t r)
    by false = length-set (row_bytes (with_text 0 r)) 2 0 ∙ row_length (with_text 0 r)

pub line_size : {line : List ℕ} {r : PriceLine} → LineIs line r → (c t : ℕ)
    → length (record_at c t (row_on line r).row) ≡ 34 + r.article.count + r.condition.count
unfolding row_on
line_size {line} {r} p c t = record_size c t (row_on line r).row ∙ omega (arith, p.article.count, p.condition.count)

pub same_size : (c d t : ℕ) (r : Row) → length (record_at c t r) ≡ length (record_at d t r)
same_size c d t r = record_size c t r ∙ sym (record_size d t r)

pub same_sizes : (c d : ℕ) (met : List (List ℕ)) (ls : List NamedRow) → length (records_at c met ls) ≡ length (records_at d met ls)
unfolding records_at
same_sizes c d met [] = refl
same_sizes c d met (l ∷ ls) =
    length-append (record_at c (number_of met l.name) l.row) (records_at c (after met l.name) ls)
    ∙ (ap₂ (λ (m n : ℕ). m + n) (same_size c d (number_of met l.name) l.row) (same_sizes c d (after met l.name) ls)
    ∙ sym (length-append (record_at d (number_of met l.name) l.row) (records_at d (after met l.name) ls)))

-- ---- its kind

kind_ready : (r : Row) → get_or (row_bytes r) 2 0 ≡ 2
unfolding row_bytes
kind_ready r = refl

pub some_bytes : (r : Row) → 2 < length (row_bytes r)
some_bytes r = omega (arith, row_length r)

kind_waits : (r : Row) → get_or (waiting r) 2 0 ≡ 0
unfolding waiting
kind_waits r = get_or-set_same (row_bytes (with_text 0 r)) 2 0 0 (some_bytes (with_text 0 r))

module _ (c t : ℕ) (r : Row) where
  pub given_is : t ≤ c → record_at c t r ≡ row_bytes (with_text t r)
  unfolding record_at
  given_is h = ap (λ (b : Bool). cond b (row_bytes (with_text t r)) (waiting r)) (le-leb t c h)

  pub waits_is : c < t → record_at c t r ≡ waiting r
  unfolding record_at
  waits_is h = ap (λ (b : Bool). cond b (row_bytes (with_text t r)) (waiting r)) (lt-leb t c h)

  pub kind_told : get_or (record_at c t r) 2 0 ≡ 0 → c < t
  kind_told e = by (leb t c) refl
    where
      by : (b : Bool) → leb t c ≡ b → c < t
      by true f = absurd (omega (arith, sym (ap (λ (s : List ℕ). get_or s 2 0) (given_is (leb-true t c f)) ∙ kind_ready (with_text t r)) ∙ e))
      by false f = leb-false t c f

  pub kind_given : (get_or (record_at c t r) 2 0 ≡ 0 → ⊥) → t ≤ c
  kind_given n = by (leb t c) refl
    where
      by : (b : Bool) → leb t c ≡ b → t ≤ c
      by true f = leb-true t c f
      by false f = absurd (n (ap (λ (s : List ℕ). get_or s 2 0) (waits_is (leb-false t c f)) ∙ kind_waits r))

-- ---- before any number is given

pub place_low : (s : List (List ℕ)) (x : List ℕ) → 1 ≤ place_in s x
unfolding place_in
place_low [] x = omega arith
place_low (y ∷ s) x = by (same x y)
  where
    by : (b : Bool) → 1 ≤ cond b 1 (suc (place_in s x))
    by true = omega arith
    by false = omega arith

pub some_number : (met : List (List ℕ)) (x : List ℕ) → is_empty x ≡ false → 0 < number_of met x
some_number met x e = omega (arith, ap (λ (b : Bool). cond b 0 (place_in (met ++ (x ∷ [])) x)) e, place_low (met ++ (x ∷ [])) x)

-- ---- a number of which four bytes are written

low_bytes : (n : ℕ) → bytes_of 4 (n % 4294967296) ≡ bytes_of 4 n
low_bytes n = sym (ap (drop 4) (bytes_halves 4 4 n))

pub low_text : (n : ℕ) (r : Row) → row_bytes (with_text (n % 4294967296) r) ≡ row_bytes (with_text n r)
unfolding row_bytes
low_text n r = ap whole_record (low_bytes n)
  where
    body : List ℕ → List ℕ
    body bs =
        name_bytes r.article
        ++ (name_bytes r.condition
        ++ (r.sort
        ∷ r.level
        ∷ r.rule
        ∷ (bs ++ (value_bytes r.value ++
        (r.currency ++ (bytes_of 4 r.from ++ (bytes_of 4 r.to ++ (bytes_of 4 r.up_to ++ bytes_of 2 r.rounding))))))))

    whole_record : List ℕ → List ℕ
    whole_record bs = bytes_of 2 (suc (length (body bs))) ++ (2 ∷ body bs)
