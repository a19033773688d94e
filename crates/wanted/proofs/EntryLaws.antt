-- A record that goes by: whose it is, and what is kept of it.
use Prim.Native.Nat.{ℕ}
use mathlib.Core.Path.{◌≡◌, refl, sym, ◌∙◌, ap, subst}
use mathlib.Core.Bool.{Bool, true, false, ◌||◌, not, false≢true}
use mathlib.Core.List.{List}
use mathlib.Core.Option.{Option, some, none}
use lib.Dec.{eqb}
use lib.ListN.{get_or}
use borrow.Author.Tests.{eq-eqb, ne_eqb}
use Rattle.rules.specs.Lists.{is_some}
use Rattle.rules.specs.Layout.{whole}
use Rattle.rules.specs.Book.{Record, ArticleRecord, PriceRecord, RoundingRecord, PackagingRecord, SchemeRecord}
use Rattle.rules.specs.BookLayout.{kinded}
use Rattle.rules.specs.declared.PriceRow.{PriceRow}
use Rattle.layout.specs.Ensures.{Says}
use Rattle.records.specs.Asks.{Accepted}
use Rattle.records.specs.Ensures.{row_in, RowIs}
use Rattle.records.specs.Tests.{is_rounding}
use Rattle.records.proofs.FieldLaws.{kind_byte}
use Rattle.survey.specs.declared.window.Span.{Span}
use Rattle.survey.specs.Window.{SpanAfter}
use Rattle.survey.proofs.WindowLaws.{span_kept}
use Rattle.wanted.specs.declared.entries.Entry.{Entry}
use Rattle.wanted.specs.Entries.{is_article, is_row, EntryAfter, ToldIs}

-- ---- what is kept of it

module _ {t : List ℕ} where
  article_byte : Accepted t → is_article (whole kinded t) ≡ eqb (get_or t 0 0) 1
  unfolding is_article
  article_byte p = go (whole kinded t) refl
    where
      go : (o : Option Record) → whole kinded t ≡ o → is_article o ≡ eqb (get_or t 0 0) 1
      go none i = absurd (false≢true (sym (ap is_some i) ∙ p.ok))
      go (some (ArticleRecord a)) i = sym (ap (λ (k : ℕ). eqb k 1) (kind_byte t (ArticleRecord a) i))
      go (some (PriceRecord r)) i = sym (ap (λ (k : ℕ). eqb k 1) (kind_byte t (PriceRecord r) i))
      go (some (RoundingRecord r)) i = sym (ap (λ (k : ℕ). eqb k 1) (kind_byte t (RoundingRecord r) i))
      go (some (PackagingRecord r)) i = sym (ap (λ (k : ℕ). eqb k 1) (kind_byte t (PackagingRecord r) i))
      go (some (SchemeRecord r)) i = sym (ap (λ (k : ℕ). eqb k 1) (kind_byte t (SchemeRecord r) i))

  no_row : Accepted t → (get_or t 0 0 ≡ 2 → ⊥) → (sold : Bool) → is_row sold (whole kinded t) ≡ false
  unfolding is_row
  no_row p n sold = go (whole kinded t) refl
    where
      go : (o : Option Record) → whole kinded t ≡ o → is_row sold o ≡ false
      go none i = refl
      go (some (ArticleRecord a)) i = refl
      go (some (PriceRecord r)) i = absurd (n (kind_byte t (PriceRecord r) i))
      go (some (RoundingRecord r)) i = refl
      go (some (PackagingRecord r)) i = refl
      go (some (SchemeRecord r)) i = refl

  module _ (e : Entry) (at end : ℕ) (p : Accepted t) where
    pub seen_other : (get_or t 0 0 ≡ 2 → ⊥)
        → EntryAfter e (whole kinded t) at end (record { found = e.found || eqb (get_or t 0 0) 1; sale = e.sale; purchase = e.purchase })
    seen_other n = record {
      found = ap (λ (b : Bool). e.found || b) (sym (article_byte p));
      sale = span_kept e.sale at end (no_row p n true);
      purchase = span_kept e.purchase at end (no_row p n false);
    }

    pub seen_row : {row : PriceRow} → RowIs t row → {a c : Span} → SpanAfter e.sale (eqb row.sort 83) at end a
        → SpanAfter e.purchase (not (eqb row.sort 83)) at end c
        → EntryAfter e (whole kinded t) at end (record { found = e.found || eqb (get_or t 0 0) 1; sale = a; purchase = c })
    unfolding is_row row_in
    seen_row {row} r {a} {c} x y = record { found = ap (λ (b : Bool). e.found || b) (sym (article_byte p)); sale = rw r.is x; purchase = rw r.is y }

pub rounded_is : (s : Span) (o : Option Record) {r : Bool} {at end : ℕ} {next : Span} → Says (is_rounding o) r → SpanAfter s r at end next
    → SpanAfter s (is_rounding o) at end next
rounded_is s o {at = at} {end} {next} kind after = subst (λ (x : Bool). SpanAfter s x at end next) (sym kind.is) after

-- ---- what is told of it

module _ (e : Entry) (sort : ℕ) (roundings : Span) where
  pub told_sale : sort ≡ 83 → ToldIs e sort roundings (record { article = e.found; spans = record { rows = e.sale; roundings = roundings } })
  told_sale s = record { is = rw (eq-eqb sort 83 s) }

  pub told_purchase : (sort ≡ 83 → ⊥) → ToldIs e sort roundings (record { article = e.found; spans = record { rows = e.purchase; roundings = roundings } })
  told_purchase s = record { is = rw (ne_eqb sort 83 s) }
