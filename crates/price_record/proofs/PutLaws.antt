-- A price record, part by part.
use Prim.Native.Nat.{ℕ, zero, suc, ◌+◌, ◌-◌, ◌/◌, ◌%◌, ◌≤◌, ◌<◌}
use mathlib.Core.Path.{◌≡◌, refl, sym, ◌∙◌, ap, ap₂, subst}
use mathlib.Core.Bool.{Bool, true, false, cond}
use mathlib.Core.List.{List, [], ◌∷◌, ◌++◌}
use native.Mathlib.Omega.{arith}
use lib.Dec.{leb}
use lib.IntN.{ℤ}
use lib.ListN.{length, set}
use borrow.Author.Tests.{leb-true, leb-false}
use Rattle.rules.specs.Bytes.{bytes_of, twos}
use Rattle.rules.specs.BookLayout.{value_of}
use Rattle.rules.specs.RowBytes.{name_bytes, flag_of, hundredths_of, value_bytes, row_body, row_bytes}
use Rattle.file_rules.specs.PriceFile.{with_text}
use Rattle.layout.specs.Ensures.{Number, Puts, PutsTo}
use Rattle.layout.proofs.StoreLaws.{puts_of, puts_two, to_then}
use Rattle.fields.specs.declared.field.Field.{Field}
use Rattle.fields.specs.Field.{text_of, TextIs}
use Rattle.figures.specs.Figures.{signed_by, letters_of}
use Rattle.rules.specs.declared.Currency.{Currency}
use Rattle.price_line.specs.declared.Kinds.{Kinds}
use Rattle.price_line.specs.declared.Priced.{Priced}
use Rattle.price_line.specs.declared.Span.{Span}
use Rattle.price_line.specs.declared.PriceLine.{PriceLine}
use Rattle.price_line.specs.Line.{Worth, row_on}
use Rattle.price_record.proofs.SizeLaws.{body_length}
use Rattle.price_record.specs.Put.{head_bytes, kind_bytes, span_bytes, flag_bit, term_bytes, NameRoom, TermRoom, ToPut}

-- ---- bytes and numbers

module _ {old : List ℕ} {at : ℕ} where
  pub byte_put : {b : ℕ} → at < length old → PutsTo old at (b ∷ []) (set old at b) (at + 1)
  byte_put h = record { puts = puts_of (omega arith) refl; ends = refl }

  pub pair_put : (n : ℕ) → n < 65536 → at + 2 ≤ length old → PutsTo old at (bytes_of 2 n) (set (set old at (n / 256)) (at + 1) (n % 256)) (at + 2)
  pair_put n h room = record { puts = puts_two n h room; ends = refl }

  pub number_put : (n : ℕ) {new : List ℕ} → Puts old at (bytes_of 4 n) new → PutsTo old at (bytes_of 4 n) new (at + 4)
  number_put n p = record { puts = p; ends = refl }

-- ---- signs

module _ (b : Bool) (n : ℕ) where
  pub twos_zero : n < 1 → Number (twos 4 (signed_by b n)) 4294967296 n
  twos_zero h = record { is = by b n h; below = omega arith }
    where
      by : (b : Bool) (n : ℕ) → n < 1 → n ≡ twos 4 (signed_by b n)
      by true zero h = refl
      by true (suc n) h = absurd (omega arith)
      by false n h = refl

  pub twos_minus : 1 ≤ n → n < 4294967296 → b ≡ true → Number (twos 4 (signed_by b n)) 4294967296 (4294967295 - (n - 1))
  twos_minus h g e = record { is = by n h ∙ sym (ap (λ (x : Bool). twos 4 (signed_by x n)) e); below = omega arith }
    where
      by : (n : ℕ) → 1 ≤ n → 4294967295 - (n - 1) ≡ twos 4 (signed_by true n)
      by zero h = absurd (omega arith)
      by (suc n) h = omega arith

  pub twos_plus : n < 4294967296 → b ≡ false → Number (twos 4 (signed_by b n)) 4294967296 n
  twos_plus g e = record { is = sym (ap (λ (x : Bool). twos 4 (signed_by x n)) e); below = g }

-- ---- the parts

module _ {a b : List ℕ} {at m : ℕ} where
  pub head_put : (n : ℕ) {c : List ℕ} {r : ℕ} → PutsTo a at (bytes_of 2 n) b m → PutsTo b m (2 ∷ []) c r → PutsTo a at (head_bytes n) c r
  head_put n p q = to_then p q

  pub name_put : {line : List ℕ} {f : Field} {c : List ℕ} {r : ℕ} → TextIs line f → PutsTo a at (f.count ∷ []) b m → PutsTo b m (text_of line f) c r
      → PutsTo a at (name_bytes (text_of line f)) c r
  name_put {line} {f} {c} {r} t p q = subst (λ (k : ℕ). PutsTo a at (k ∷ text_of line f) c r) (sym t.count) (to_then p q)

  pub value_put : (v : Priced) {c : List ℕ} {n f r : ℕ} → Number (twos 4 (signed_by v.amount.minus v.amount.hundredths)) 4294967296 n
      → Number (flag_bit v.flag) 256 f
      → PutsTo a at (f ∷ []) b m → PutsTo b m (bytes_of 4 n) c r → PutsTo a at (value_bytes (Worth v.flag v.amount)) c r
  value_put v {c} {n} {f} {r} x y p q =
      subst (λ (s : List ℕ). PutsTo a at s c r) (ap₂ (λ (k j : ℕ). k ∷ bytes_of 4 j) (y.is ∙ flag_is v.flag z) (x.is
      ∙ sym (ap (twos 4) (value_is (v.flag - 48) z)))) (to_then p q)
    where
      z : ℤ
      z = signed_by v.amount.minus v.amount.hundredths

      value_is : (k : ℕ) (z : ℤ) → hundredths_of (value_of k z) ≡ z
      value_is zero z = refl
      value_is (suc k) z = refl

      flag_is : (k : ℕ) (z : ℤ) → flag_bit k ≡ flag_of (value_of (k - 48) z)
      flag_is k z = by (leb k 48) refl
        where
          by : (x : Bool) → leb k 48 ≡ x → cond x 0 1 ≡ flag_of (value_of (k - 48) z)
          by true e = let d : 0 ≡ k - 48 = omega (arith, leb-true k 48 e) in ap (λ (j : ℕ). flag_of (value_of j z)) d
          by false e = let d : suc (k - 49) ≡ k - 48 = omega (arith, leb-false k 48 e) in ap (λ (j : ℕ). flag_of (value_of j z)) d

  module _ {c : List ℕ} {n : ℕ} where
    pub currency_put : {d : List ℕ} {r : ℕ} (x : Currency) → PutsTo a at (x.0 ∷ []) b m → PutsTo b m (x.1 ∷ []) c n → PutsTo c n (x.2 ∷ []) d r
        → PutsTo a at (letters_of x) d r
    currency_put x p q s = to_then p (to_then q s)

    module _ {d : List ℕ} {i : ℕ} where
      pub kinds_put : (k : Kinds) (text : ℕ) {e : List ℕ} {rule r : ℕ} → Number (k.rule - 48) 256 rule
          → PutsTo a at (k.sort ∷ []) b m → PutsTo b m (k.level ∷ []) c n → PutsTo c n (rule ∷ []) d i → PutsTo d i (bytes_of 4 text) e r
          → PutsTo a at (kind_bytes k text) e r
      kinds_put k text {e} {rule} {r} x p q s t =
          subst (λ (j : ℕ). PutsTo a at (k.sort ∷ k.level ∷ j ∷ bytes_of 4 text) e r) x.is (to_then p (to_then q (to_then s t)))

      pub span_put : (s : Span) {e : List ℕ} {r : ℕ} → PutsTo a at (bytes_of 4 s.from) b m → PutsTo b m (bytes_of 4 s.to) c n
          → PutsTo c n (bytes_of 4 s.upto) d i → PutsTo d i (bytes_of 2 0) e r → PutsTo a at (span_bytes s) e r
      span_put s p q t u = to_then p (to_then q (to_then t u))

-- ---- the record

module _ (row : PriceLine) (text : ℕ) where
  pub terms_put : {a b c d e : List ℕ} {at i j k r : ℕ} → PutsTo a at (kind_bytes row.kinds text) b i
      → PutsTo b i (value_bytes (Worth row.priced.flag row.priced.amount)) c j → PutsTo c j (letters_of row.currency) d k
      → PutsTo d k (span_bytes row.span) e r → PutsTo a at (term_bytes row text) e r
  terms_put p q s t = to_then p (to_then q (to_then s t))

module _ (row : PriceLine) {line a : List ℕ} {at : ℕ} (t : ToPut line row a at) {b : List ℕ} {i : ℕ} (n : ℕ) (p : PutsTo a at (head_bytes n) b i) where
  behind_head : (i ≡ at + 3) × (length b ≡ length a)
  behind_head = (p.ends, p.puts.long)

  pub article_room : NameRoom b i line row.article
  article_room = record { room = omega (arith, t.room, behind_head.0, behind_head.1); short = omega (arith, t.short); text = t.article }

  module _ {c : List ℕ} {j : ℕ} (q : PutsTo b i (name_bytes (text_of line row.article)) c j) where
    behind_article : (j ≡ at + 4 + row.article.count) × (length c ≡ length a)
    behind_article = (omega (arith, q.ends, behind_head.0, t.article.count), q.puts.long ∙ behind_head.1)

    pub condition_room : NameRoom c j line row.condition
    condition_room =
        record { room = omega (arith, t.room, behind_article.0, behind_article.1); short = omega (arith, t.narrow); text = t.condition }

    pub terms_room : {d : List ℕ} {k : ℕ} → PutsTo c j (name_bytes (text_of line row.condition)) d k → TermRoom d k
    terms_room s = record { room = omega (arith, t.room, s.ends, s.puts.long, behind_article.0, behind_article.1, t.condition.count) }

module _ (row : PriceLine) (text : ℕ) where
  pub row_put : {line a b c d e : List ℕ} {at i j k r : ℕ} → ToPut line row a at
      → PutsTo a at (head_bytes (32 + row.article.count + row.condition.count)) b i
      → PutsTo b i (name_bytes (text_of line row.article)) c j → PutsTo c j (name_bytes (text_of line row.condition)) d k
      → PutsTo d k (term_bytes row text) e r → PutsTo a at (row_bytes (with_text text (row_on line row).row)) e r
  unfolding row_bytes row_on
  row_put {line} {a} {e = e} {at} {r = r} t p q s u =
      subst (λ (m : ℕ). PutsTo a at (bytes_of 2 m ++ (2 ∷ row_body (with_text text (row_on line row).row))) e r) size
      (to_then p (to_then q (to_then s u)))
    where
      size : 32 + row.article.count + row.condition.count ≡ suc (length (row_body (with_text text (row_on line row).row)))
      size = omega (arith, body_length (with_text text (row_on line row).row), t.article.count, t.condition.count)
