-- The line of a record: where its names end, how long it is, and what is written.
use Prim.Native.Nat.{ℕ, ◌+◌, ◌-◌, ◌≤◌, ◌<◌}
use mathlib.Core.Path.{◌≡◌, refl, sym, ◌∙◌, ap, subst}
use mathlib.Core.Bool.{Bool, true, false, not, ◌&&◌, and-true}
use mathlib.Core.List.{List, []}
use mathlib.Core.Option.{Option, some, none}
use native.Mathlib.Omega.{arith}
use lib.Dec.{eqb, leb}
use lib.ListN.{length, drop, get_or, length-drop}
use lib.Seq.{length-take-le}
use Rattle.std.proofs.Common.{Fits, w8}
use Rattle.rules.specs.Lists.{all}
use Rattle.rules.proofs.TestLaws.{so, not_so}
use Rattle.rules.specs.Layout.{whole}
use Rattle.rules.specs.Book.{Record, ArticleRecord, PriceRecord, RoundingRecord, PackagingRecord, SchemeRecord}
use Rattle.rules.specs.BookLayout.{kinded}
use Rattle.file_rules.specs.PriceFile.{fits_line, file_text}
use Rattle.file_rules.proofs.PriceLineLaws.{two_cases}
use Rattle.layout.specs.Reads.{part, name_stop}
use Rattle.layout.specs.Ensures.{Says, Number, PutsTo}
use Rattle.layout.proofs.StoreLaws.{to_nothing}
use Rattle.kinds.specs.Fields.{row_at}
use Rattle.records.specs.Asks.{Accepted, OfKind}
use Rattle.records.proofs.FieldLaws.{kind_byte, of_kind}
use Rattle.records.proofs.PriceLaws.{price_names, price_first, price_second, row_rule}
use Rattle.decimals.specs.Texts.{ended, RoomFor}
use Rattle.quotes.specs.Names.{text_in}
use Rattle.price_terms.specs.declared.Terms.{Terms}
use Rattle.price_terms.specs.Terms.{TermsAre, fit_terms, SizeIs, two, kind_text, tail_text}
use Rattle.price_terms.proofs.PartLaws.{two_length, room_one, room_two, two_put}
use Rattle.price_text.specs.Line.{brings, line_of, names_text, term_text, Priced}
use Rattle.price_text.specs.Size.{fits, LineHolds, NoLineHolds}
use Rattle.price_text.proofs.ColumnLaws.{line_as}

-- ---- a record of another kind

brings_none : (t : List ℕ) → Accepted t → (get_or t 0 0 ≡ 2 → ⊥) → brings (whole kinded t) ≡ []
brings_none t p n = by (whole kinded t) refl
  where
    by : (o : Option Record) → whole kinded t ≡ o → brings o ≡ []
    by none e = refl
    by (some (ArticleRecord x)) e = refl
    by (some (PriceRecord x)) e = absurd (n (kind_byte t (PriceRecord x) e))
    by (some (RoundingRecord x)) e = refl
    by (some (PackagingRecord x)) e = refl
    by (some (SchemeRecord x)) e = refl

module _ {t : List ℕ} (p : Accepted t) where
  module _ (n : get_or t 0 0 ≡ 2 → ⊥) where
    no_bytes : line_of t ≡ []
    unfolding line_of file_text
    no_bytes = ap file_text (brings_none t p n)

    pub no_line : LineHolds t 0
    no_line = record { fit = ap (all fits_line) (brings_none t p n); is = sym (ap length no_bytes); few = omega arith }

    pub no_line_put : {out : List ℕ} {at : ℕ} → RoomFor out at (line_of t) → PutsTo out at (line_of t) out at
    no_line_put {out} {at} r = subst (λ (s : List ℕ). PutsTo out at s out at) (sym no_bytes) (to_nothing (omega (arith, r.room)))

  -- ---- a price record

  module _ (n : get_or t 0 0 ≡ 2) where
    price_kind : OfKind 2 t
    price_kind = of_kind p n

    pub first_stands : 1 < length t
    first_stands = price_first price_kind

    module _ (bytes : (i : ℕ) → Fits w8 (get_or t i 0)) where
      article : Number (name_stop t 1) 258 (2 + get_or t 1 0)
      article = record { is = omega arith; below = omega (arith, (bytes 1).fits) }

      pub second_stands : 2 + get_or t 1 0 < length t
      second_stands = price_second price_kind article

      condition : Number (name_stop t (2 + get_or t 1 0)) (2 + get_or t 1 0 + 257) (2 + get_or t 1 0 + 1 + get_or t (2 + get_or t 1 0) 0)
      condition = record { is = refl; below = omega (arith, (bytes (2 + get_or t 1 0)).fits) }

      pub priced : Priced t (2 + get_or t 1 0) (2 + get_or t 1 0 + 1 + get_or t (2 + get_or t 1 0) 0)
      priced = record { here = price_names price_kind article condition; short = article.below; brief = condition.below }

module _ {t : List ℕ} {a p : ℕ} (k : Priced t a p) where
  pub terms_there : p + 29 ≤ length t
  terms_there = omega (arith, k.here.long)

  pub rule_small : get_or t (p + 2) 0 < 10
  rule_small = two_cases (λ (n : ℕ). n < 10) 1 2 (omega arith) (omega arith) (get_or t (p + 2) 0) (row_rule t a p k.here).is

  pub short_article : length (part t 2 a) < 256
  short_article =
      omega (arith, length-take-le (a - 2) (drop 2 t) (omega (arith, length-drop 2 t, k.here.middle, k.here.long)), k.short, k.here.low)

  pub short_condition : length (part t (a + 1) p) < 256
  short_condition =
      omega (
        arith,
        length-take-le (p - (a + 1)) (drop (a + 1) t) (omega (arith, length-drop (a + 1) t, k.here.middle, k.here.long)),
        k.brief,
        k.here.middle,
      )

pub names_size : {t : List ℕ} {a p n m : ℕ} → Priced t a p → Number (length (ended (text_in true (part t 2 a)))) 515 n
    → Number (length (ended (text_in false (part t (a + 1) p)))) 515 m → Number (length (names_text t a p)) 1030 (n + m)
names_size {t} {a} {p} k x y = record {
  is = omega (arith, x.is, y.is, two_length (ended (text_in true (part t 2 a))) (ended (text_in false (part t (a + 1) p))));
  below = omega (arith, x.below, y.below);
}

-- ---- the line

module _ {t : List ℕ} {a p : ℕ} (k : Priced t a p) {r : Terms} (m : TermsAre t p r) where
  line_length : length (line_of t) ≡ length (names_text t a p) + (length (kind_text t p r.text) + length (tail_text t p r))
  line_length =
      ap length (line_as t a p k.here m)
      ∙ omega (arith, two_length (names_text t a p) (term_text t p r), two_length (kind_text t p r.text) (tail_text t p r))

  fit : fit_terms r ≡ fits t
  unfolding row_at
  fit =
      (λ i. eqb (m.rounding i) 0 && (leb (m.from i) 99_999_999 && leb (m.to i) 99_999_999))
      ∙ (sym (and-true (fits_line (row_at t 1 a p))) ∙ sym (ap (λ (o : Option Record). all fits_line (brings o)) k.here.is))

  module _ {f : Bool} (z : Says (fit_terms r) f) where
    pub no_fit : {n s : ℕ} → f ≡ false → Number (length (names_text t a p)) 1030 n → SizeIs r s → NoLineHolds t (n + s)
    no_fit h x y = record {
      unfit = sym fit ∙ (z.is ∙ h);
      is = omega (arith, line_length, x.is, y.is t p (terms_there k));
      few = omega (arith, x.below, y.few);
    }

    pub line_holds : {n s : ℕ} → f ≡ true → Number (length (names_text t a p)) 1030 n → SizeIs r s → LineHolds t (n + s)
    line_holds h x y = record {
      fit = sym fit ∙ (z.is ∙ h);
      is = omega (arith, line_length, x.is, y.is t p (terms_there k));
      few = omega (arith, x.below, y.few);
    }

  module _ {out : List ℕ} {at : ℕ} where
    as_parts : RoomFor out at (line_of t) → RoomFor out at (two (names_text t a p) (term_text t p r))
    as_parts x = subst (λ (s : List ℕ). RoomFor out at s) (line_as t a p k.here m) x

    pub names_room : RoomFor out at (line_of t) → RoomFor out at (names_text t a p)
    names_room x = room_one (names_text t a p) (term_text t p r) (as_parts x)

    module _ {b : List ℕ} {i : ℕ} (q : PutsTo out at (names_text t a p) b i) where
      pub terms_room : RoomFor out at (line_of t) → RoomFor b i (term_text t p r)
      terms_room x = room_two (names_text t a p) (term_text t p r) (as_parts x) q

      pub line_put : {c : List ℕ} {j : ℕ} → PutsTo b i (term_text t p r) c j → PutsTo out at (line_of t) c j
      line_put {c} {j} s =
          subst (λ (w : List ℕ). PutsTo out at w c j) (sym (line_as t a p k.here m)) (two_put (names_text t a p) (term_text t p r) q s)
