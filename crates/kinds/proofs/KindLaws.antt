-- The bodies of articles, prices, roundings and schemes at a place: the wrong size, and the tests of their fields.
use Prim.Native.Nat.{ℕ, ◌+◌, ◌-◌, ◌≤◌, ◌<◌}
use mathlib.Core.Path.{◌≡◌, sym, ◌∙◌, ap}
use mathlib.Core.Bool.{Bool, true, false, ◌&&◌, ◌||◌, and-true, and_assoc}
use mathlib.Core.List.{List, [], ◌∷◌}
use native.Mathlib.Omega.{arith}
use native.Mathlib.Decide.{dec_lt}
use lib.Dec.{eqb, leb, ltb}
use lib.ListN.{length, take, drop, get_or}
use borrow.Author.Tests.{lt-ltb, eq-eqb, ne_eqb}
use Rattle.rules.specs.Lists.{any, between, is_some}
use Rattle.rules.specs.Layout.{bytes, byte, whole}
use Rattle.rules.specs.Bytes.{number, signed, signed_of, capitals, either_side, name_byte}
use Rattle.rules.specs.Book.{ArticleRecord, PriceRecord, RoundingRecord, SchemeRecord, sale, purchase, base, surcharge, discount}
use Rattle.rules.specs.BookLayout.{article_body, price_body, rounding_body, scheme_body, value_of, in_bounds}
use Rattle.layout.specs.Reads.{Reads, part, name_stop}
use Rattle.layout.specs.Ensures.{Accepts, Number, Says, NameEnd}
use Rattle.layout.proofs.LayoutLaws.{then_reads, such_reads, give_reads, if_reads, number_at_lem, one_of_at, byte_reads, bytes_reads, number_reads, signed_reads, one_of_reads, body_as, taken_are, not_sized, sized_then, sized_give, sized_if, sized_such, sized_byte, sized_bytes, sized_number, sized_signed, sized_one_of}
use Rattle.layout.proofs.NameLaws.{name_rest}
use Rattle.pairs.specs.Pairs.{Named}
use Rattle.pairs.proofs.PairLaws.{shorter}
use Rattle.kinds.specs.Fields.{number_at, signed_at, article_at, row_at, rounding_at, scheme_at}
use Rattle.kinds.specs.Ensures.{trim_ok}

-- ---- article
module _ {s : List ℕ} {at a : ℕ} (p : NameEnd 1 40 s at a) (h : 1 ≤ a) {b : ℕ} (q : NameEnd 0 20 s a b) (g : 1 ≤ b) where
  pub article_reads : Reads article_body s at (ltb 0 a && (ltb 0 b && true)) (ArticleRecord (article_at s at a b)) b
  unfolding article_at
  article_reads = then_reads _ _ p.reads (then_reads _ _ q.reads give_reads)

  pub article_no : (length s - b ≡ 0 → ⊥) → Accepts (whole article_body (drop at s)) false
  article_no n = record { is = ap is_some (name_rest p _ h (name_rest q _ g (not_sized _ sized_give s b n))) }

  pub article_is : Accepts (whole article_body (drop at s)) (eqb b (length s))
  article_is = go (dec_lt b (length s))
    where
      go : Dec (b < length s) → Accepts (whole article_body (drop at s)) (eqb b (length s))
      go (yes e) = rw (ne_eqb b (length s) (λ i. omega arith)) (article_no (λ i. omega arith))
      go (no e) = body_as article_body article_reads (omega arith) (rw (lt-ltb 0 a h, lt-ltb 0 b g, eq-eqb b (length s) (omega (arith, q.fits))))

-- behind both names
pub article_all : {s : List ℕ} {at b : ℕ} → Named s at b → Accepts (whole article_body (drop at s)) (eqb b (length s))
article_all p = article_is p.first (omega arith) p.second (omega (arith, p.low))

-- ---- price
module _ {s : List ℕ} {at a : ℕ} (p : NameEnd 1 40 s at a) (h : 1 ≤ a) {b : ℕ} (q : NameEnd 0 20 s a b) (g : 1 ≤ b) where
  pub price_no : (length s - b ≡ 29 → ⊥) → Accepts (whole price_body (drop at s)) false
  price_no n = record {
    is = ap is_some (name_rest p _ h (name_rest q _ g (not_sized _ (
        sized_then _ _ (sized_one_of (sale ∷ purchase ∷ [])) λ sort. sized_then _ _ (sized_one_of (base ∷ surcharge ∷ discount ∷ [])) λ level. sized_then _ _ (sized_one_of (1 ∷ 2 ∷ [])) λ rule.
        sized_then _ _ (sized_number 4) λ text. sized_then _ _ (sized_one_of (0 ∷ 1 ∷ [])) λ fixed. sized_then _ _ (sized_signed 4) λ v.
        sized_then _ _ (sized_if (in_bounds (value_of fixed v)) tt) λ u. sized_then _ _ (sized_such (bytes 3) capitals (sized_bytes 3)) λ currency.
        sized_then _ _ (sized_number 4) λ from. sized_then _ _ (sized_number 4) λ to. sized_then _ _ (sized_number 4) λ up_to.
        sized_then _ _ (sized_number 2) λ rounding. sized_give) s b n)));
  }

  module _ (n : length s - b ≡ 29) where
    pub price_reads : Reads price_body s at (ltb 0 a && (ltb 0 b && (
        any (eqb (get_or s b 0)) (sale ∷ purchase ∷ []) && (any (eqb (get_or s (b + 1) 0)) (base ∷ surcharge ∷ discount ∷ []) && (any (eqb (get_or s (b + 2) 0)) (1 ∷ 2 ∷ [])
        && (any (eqb (get_or s (b + 7) 0)) (0 ∷ 1 ∷ []) && (in_bounds (value_of (get_or s (b + 7) 0) (signed_at s (b + 8)))
        && (capitals (take 3 (drop (b + 12) s)) && true))))))))
        (PriceRecord (row_at s at a b)) (b + 29)
    unfolding row_at
    price_reads =
        then_reads _ _ p.reads (then_reads _ _ q.reads
        (then_reads _ _ (one_of_at s b (sale ∷ purchase ∷ []) (omega arith)) (then_reads _ _ (one_of_reads s b (base ∷ surcharge ∷ discount ∷ []) 1 (omega arith)) (then_reads _ _ (one_of_reads s b (1 ∷ 2 ∷ []) 2 (omega arith))
        (then_reads _ _ (number_reads s b 4 3 (omega arith)) (then_reads _ _ (one_of_reads s b (0 ∷ 1 ∷ []) 7 (omega arith)) (then_reads _ _ (signed_reads s b 4 8 (omega arith))
        (then_reads _ _ (if_reads (in_bounds (row_at s at a b).value) tt) (then_reads _ _ (such_reads (bytes 3) capitals (bytes_reads s b 3 12 (omega arith)))
        (then_reads _ _ (number_reads s b 4 15 (omega arith)) (then_reads _ _ (number_reads s b 4 19 (omega arith)) (then_reads _ _ (number_reads s b 4 23 (omega arith))
        (then_reads _ _ (number_reads s b 2 27 (omega arith)) give_reads)))))))))))))

-- behind both names
module _ {s : List ℕ} {at b : ℕ} (p : Named s at b) where
  pub price_size : (length s - b ≡ 29 → ⊥) → Accepts (whole price_body (drop at s)) false
  price_size = price_no p.first (omega arith) p.second (omega (arith, p.low))

  module _ (n : length s - b ≡ 29) where
    pub price_is : {t₁ t₂ t₃ t₄ t₅ t₆ t₇ t₈ : Bool} {v : ℕ}
        → Says (any (eqb (get_or s b 0)) (sale ∷ purchase ∷ [])) t₁
        → Says (any (eqb (get_or s (b + 1) 0)) (base ∷ surcharge ∷ discount ∷ [])) t₂
        → Says (any (eqb (get_or s (b + 2) 0)) (1 ∷ 2 ∷ [])) t₃
        → Says (any (eqb (get_or s (b + 7) 0)) (0 ∷ 1 ∷ [])) t₄
        → Number (number_at 4 s (b + 8)) 4294967296 v
        → Says (in_bounds (value_of (get_or s (b + 7) 0) (signed_of 4 v))) t₅
        → Says (between 65 90 (get_or s (b + 12) 0)) t₆ → Says (between 65 90 (get_or s (b + 13) 0)) t₇ → Says (between 65 90 (get_or s (b + 14) 0)) t₈
        → Accepts (whole price_body (drop at s)) (t₁ && t₂ && t₃ && t₄ && t₅ && t₆ && t₇ && t₈)
    price_is {t₅} {t₆} {t₇} {t₈} e₁ e₂ e₃ e₄ e e₅ e₆ e₇ e₈ =
        let g : 1 ≤ b = omega (arith, p.low) in
        body_as price_body (price_reads p.first (omega arith) p.second g n) (omega arith) (rw (lt-ltb 0 (name_stop s at) (omega arith), lt-ltb 0 b g, e₁.is, e₂.is, e₃.is, e₄.is, value, caps) (simp (and_assoc, and-true)))
      where
        caps : capitals (take 3 (drop (b + 12) s)) ≡ (t₆ && (t₇ && (t₈ && true)))
        caps = rw (taken_are s b 3 12 (omega arith), e₆.is, e₇.is, e₈.is)

        value : in_bounds (value_of (get_or s (b + 7) 0) (signed_at s (b + 8))) ≡ t₅
        value = ap (λ (k : ℕ). in_bounds (value_of (get_or s (b + 7) 0) (signed_of 4 k))) (sym e.is) ∙ e₅.is

-- ---- rounding
module _ (s : List ℕ) (at : ℕ) where
  pub rounding_no : (length s - at ≡ 15 → ⊥) → Accepts (whole rounding_body (drop at s)) false
  rounding_no n = record {
    is = ap is_some (not_sized rounding_body (
        sized_then _ _ (sized_such (number 2) (leb 1) (sized_number 2)) λ k. sized_then _ _ (sized_one_of (0 ∷ 1 ∷ 2 ∷ [])) λ way.
        sized_then _ _ (sized_such (number 4) (between 1 1_000_000) (sized_number 4)) λ step. sized_then _ _ (sized_such (signed 4) (either_side 1_000_000) (sized_signed 4)) λ before.
        sized_then _ _ (sized_such (signed 4) (either_side 1_000_000) (sized_signed 4)) λ after. sized_give) s at n);
  }

  module _ (n : length s - at ≡ 15) where
    pub rounding_reads : Reads rounding_body s at (leb 1 (number_at 2 s at) && (any (eqb (get_or s (at + 2) 0)) (0 ∷ 1 ∷ 2 ∷ [])
        && (between 1 1_000_000 (number_at 4 s (at + 3)) && (either_side 1_000_000 (signed_at s (at + 7)) && (either_side 1_000_000 (signed_at s (at + 11)) && true)))))
        (RoundingRecord (rounding_at s at)) (at + 15)
    unfolding rounding_at
    rounding_reads =
        then_reads _ _ (such_reads (number 2) (leb 1) (number_at_lem s at 2 (omega arith))) (then_reads _ _ (one_of_reads s at (0 ∷ 1 ∷ 2 ∷ []) 2 (omega arith))
        (then_reads _ _ (such_reads (number 4) (between 1 1_000_000) (number_reads s at 4 3 (omega arith))) (then_reads _ _ (such_reads (signed 4) (either_side 1_000_000) (signed_reads s at 4 7 (omega arith)))
        (then_reads _ _ (such_reads (signed 4) (either_side 1_000_000) (signed_reads s at 4 11 (omega arith))) give_reads))))

    pub rounding_is : {v₁ v₂ v₃ v₄ : ℕ} {t₁ t₂ t₃ : Bool} → Number (number_at 2 s at) 65536 v₁
        → Says (any (eqb (get_or s (at + 2) 0)) (0 ∷ 1 ∷ 2 ∷ [])) t₁ → Number (number_at 4 s (at + 3)) 4294967296 v₂
        → Number (number_at 4 s (at + 7)) 4294967296 v₃ → Says (either_side 1_000_000 (signed_of 4 v₃)) t₂
        → Number (number_at 4 s (at + 11)) 4294967296 v₄ → Says (either_side 1_000_000 (signed_of 4 v₄)) t₃
        → Accepts (whole rounding_body (drop at s)) (leb 1 v₁ && t₁ && leb 1 v₂ && leb v₂ 1_000_000 && t₂ && t₃)
    rounding_is n₁ e₁ n₂ n₃ e₂ n₄ e₃ =
        body_as rounding_body rounding_reads (omega arith) (rw (← n₁.is, ← n₂.is, ← n₃.is, ← n₄.is, e₁.is, e₂.is, e₃.is) (simp (and_assoc, and-true)))

-- ---- scheme
module _ {s : List ℕ} {at a : ℕ} (p : NameEnd 1 20 s at a) (h : 1 ≤ a) {b : ℕ} (q : NameEnd 0 8 s a b) (g : 1 ≤ b) {c : ℕ} (r : NameEnd 0 8 s b c) (k : 1 ≤ c) where
  pub scheme_no : (length s - c ≡ 4 → ⊥) → Accepts (whole scheme_body (drop at s)) false
  scheme_no n = record {
    is = ap is_some (name_rest p _ h (name_rest q _ g (name_rest r _ k (not_sized _ (
        sized_then _ _ (sized_one_of (0 ∷ 1 ∷ [])) λ visibility. sized_then _ _ (sized_such byte (λ c. eqb c 0 || name_byte c) sized_byte) λ hidden.
        sized_then _ _ (sized_such byte (λ c. eqb c 0 || name_byte c) sized_byte) λ unselected. sized_then _ _ (sized_one_of (0 ∷ 1 ∷ [])) λ trim.
        sized_then _ _ (sized_if (trim_ok (part s (b + 1) c) hidden unselected trim) tt) λ u. sized_give) s c n))));
  }

  module _ (n : length s - c ≡ 4) where
    pub scheme_reads : Reads scheme_body s at (ltb 0 a && (ltb 0 b && (ltb 0 c && (any (eqb (get_or s c 0)) (0 ∷ 1 ∷ [])
        && ((eqb (get_or s (c + 1) 0) 0 || name_byte (get_or s (c + 1) 0)) && ((eqb (get_or s (c + 2) 0) 0 || name_byte (get_or s (c + 2) 0)) && (any (eqb (get_or s (c + 3) 0)) (0 ∷ 1 ∷ [])
        && (trim_ok (part s (b + 1) c) (get_or s (c + 1) 0) (get_or s (c + 2) 0) (get_or s (c + 3) 0) && true))))))))
        (SchemeRecord (scheme_at s at a b c)) (c + 4)
    unfolding scheme_at
    scheme_reads =
        then_reads _ _ p.reads (then_reads _ _ q.reads (then_reads _ _ r.reads (then_reads _ _ (one_of_at s c (0 ∷ 1 ∷ []) (omega arith))
        (then_reads _ _ (such_reads byte (λ c. eqb c 0 || name_byte c) (byte_reads s c 1 (omega arith))) (then_reads _ _ (such_reads byte (λ c. eqb c 0 || name_byte c) (byte_reads s c 2 (omega arith)))
        (then_reads _ _ (one_of_reads s c (0 ∷ 1 ∷ []) 3 (omega arith))
        (then_reads _ _ (if_reads (trim_ok (part s (b + 1) c) (get_or s (c + 1) 0) (get_or s (c + 2) 0) (get_or s (c + 3) 0)) tt) give_reads)))))))

    pub scheme_is : {t₁ t₂ t₃ t₄ t₅ : Bool} → Says (any (eqb (get_or s c 0)) (0 ∷ 1 ∷ [])) t₁
        → Says (eqb (get_or s (c + 1) 0) 0 || name_byte (get_or s (c + 1) 0)) t₂ → Says (eqb (get_or s (c + 2) 0) 0 || name_byte (get_or s (c + 2) 0)) t₃
        → Says (any (eqb (get_or s (c + 3) 0)) (0 ∷ 1 ∷ [])) t₄ → Says (trim_ok (part s (b + 1) c) (get_or s (c + 1) 0) (get_or s (c + 2) 0) (get_or s (c + 3) 0)) t₅
        → Accepts (whole scheme_body (drop at s)) (t₁ && t₂ && t₃ && t₄ && t₅)
    scheme_is e₁ e₂ e₃ e₄ e₅ =
        body_as scheme_body scheme_reads (omega arith) (rw (lt-ltb 0 a h, lt-ltb 0 b g, lt-ltb 0 c k, e₁.is, e₂.is, e₃.is, e₄.is, e₅.is) (simp (and_assoc, and-true)))

-- behind both names, where the first has at most 20 bytes and the second at most 8
module _ {s : List ℕ} {b : ℕ} (p : Named s 1 b) where
  module _ (h : get_or s 1 0 ≤ 20) {w : ℕ} (size : Number (get_or s 1 0) 256 w) where
    id_there : NameEnd 1 20 s 1 (name_stop s 1)
    id_there = shorter p.first (omega arith) 20 h

    second_byte : get_or s (2 + w) 0 ≡ get_or s (name_stop s 1) 0
    second_byte = ap (λ x. get_or s (2 + x) 0) size.is

    module _ (k : get_or s (2 + w) 0 ≤ 8) {c : ℕ} (r : NameEnd 0 8 s b c) where
      numbers_there : NameEnd 0 8 s (name_stop s 1) b
      numbers_there = shorter p.second (omega (arith, p.low)) 8 (omega (arith, second_byte))

      module _ (l : 0 < c) where
        pub scheme_size : (length s - c ≡ 4 → ⊥) → Accepts (whole scheme_body (drop 1 s)) false
        scheme_size = scheme_no id_there (omega arith) numbers_there (omega (arith, p.low)) r (omega arith)

        pub scheme_all : {t₁ t₂ t₃ t₄ t₅ : Bool} → length s - c ≡ 4 → Says (any (eqb (get_or s c 0)) (0 ∷ 1 ∷ [])) t₁
            → Says (eqb (get_or s (c + 1) 0) 0 || name_byte (get_or s (c + 1) 0)) t₂ → Says (eqb (get_or s (c + 2) 0) 0 || name_byte (get_or s (c + 2) 0)) t₃
            → Says (any (eqb (get_or s (c + 3) 0)) (0 ∷ 1 ∷ [])) t₄
            → Says (trim_ok (part s (b + 1) c) (get_or s (c + 1) 0) (get_or s (c + 2) 0) (get_or s (c + 3) 0)) t₅
            → Accepts (whole scheme_body (drop 1 s)) (t₁ && t₂ && t₃ && t₄ && t₅)
        scheme_all n e₁ e₂ e₃ e₄ e₅ = scheme_is id_there (omega arith) numbers_there (omega (arith, p.low)) r (omega arith) n e₁ e₂ e₃ e₄ e₅
