-- Price records: the value behind the names, where the names end, and the row.
use Prim.Native.Nat.{ℕ, zero, suc, ◌+◌, ◌-◌, ◌<◌}
use mathlib.Core.Path.{◌≡◌, refl, sym, ◌∙◌, ap}
use mathlib.Core.List.{List, [], ◌∷◌}
use mathlib.Core.Bool.{Bool, true, false, ◌&&◌, not, or-false}
use mathlib.Core.Option.{Option, some, none}
use native.Mathlib.Omega.{arith}
use lib.Dec.{eqb}
use lib.ListN.{length, get_or}
use lib.IntN.{ℤ}
use borrow.Author.Tests.{ne_eqb, eqb-true}
use mir.Syntax.{w64}
use mir.Val.{to_z, of_z}
use Rattle.rules.specs.Layout.{whole}
use Rattle.rules.specs.Lists.{same, if_some}
use Rattle.rules.specs.Book.{Record, PriceRecord, Row, as_row, base, surcharge, discount}
use Rattle.rules.specs.BookLayout.{price_body, value_of, kinded}
use Rattle.rules.specs.declared.Level.{Level}
use Rattle.rules.specs.declared.Level.TheVariants.{Base, Surcharge, Discount}
use Rattle.rules.specs.declared.Rule.{Rule}
use Rattle.rules.specs.declared.Rule.TheVariants.{OfBase, OfTotal}
use Rattle.rules.specs.declared.Value.{Value}
use Rattle.rules.specs.declared.Value.TheVariants.{Fixed, Percent}
use Rattle.layout.specs.Reads.{name_stop}
use Rattle.rules.proofs.TestLaws.{so, not_so}
use Rattle.layout.specs.Ensures.{Says, Number, SignedNumber}
use Rattle.layout.proofs.LayoutLaws.{taken_are}
use Rattle.kinds.specs.Fields.{number_at, signed_at, second_stop, row_at}
use Rattle.kinds.specs.Ensures.{Stands}
use Rattle.kinds.proofs.PartsLaws.{price_parts, body_ok}
use Rattle.records.specs.Asks.{Accepted, OfKind, TwoNames, OneOf}
use Rattle.records.specs.Tests.{starts_with, row_of, is_row}
use Rattle.records.specs.Ensures.{LevelIs, RuleIs, ValueIs, RowIs, row_in}
use Rattle.records.proofs.FieldLaws.{kept_is, told_kind, starts_not, starts_kind, first_there, second_there, two_names}
use Rattle.records.proofs.BoundLaws.{in_bounds_lem}
use Rattle.records.proofs.TestLaws.{row_read}

-- ---- the level and the rule
module _ (letter : ℕ) where
  pub level_base : letter ≡ base → LevelIs letter Base
  level_base e = record { is = e }

  pub level_surcharge : letter ≡ surcharge → LevelIs letter Surcharge
  level_surcharge e = record { is = e }

  pub level_discount : OneOf (base ∷ surcharge ∷ discount ∷ []) letter → (letter ≡ base → ⊥) → (letter ≡ surcharge → ⊥) → LevelIs letter Discount
  level_discount o a b = record { is = eqb-true letter discount (sym (or-false (eqb letter discount)) ∙ rw (ne_eqb letter base a, ne_eqb letter surcharge b) at o.is) }

module _ (number : ℕ) where
  pub rule_base : number ≡ 1 → RuleIs number OfBase
  rule_base e = record { is = e }

  pub rule_total : OneOf (1 ∷ 2 ∷ []) number → (number ≡ 1 → ⊥) → RuleIs number OfTotal
  rule_total o a = record { is = eqb-true number 2 (sym (or-false (eqb number 2)) ∙ rw (ne_eqb number 1 a) at o.is) }

-- ---- the value
module _ (t : List ℕ) (p : ℕ) {z : ℤ} (v : SignedNumber (signed_at t (p + 8)) 2147483648 z) where
  pub value_percent : get_or t (p + 7) 0 ≡ 0 → ValueIs t p (Percent (record { 0 = to_z w64 (of_z w64 z) }))
  value_percent e = record { is = rw (kept_is v, e) }

  pub value_fixed : (get_or t (p + 7) 0 ≡ 0 → ⊥) → ValueIs t p (Fixed (record { 0 = to_z w64 (of_z w64 z) }))
  value_fixed n = record { is = rw (kept_is v) (go (get_or t (p + 7) 0) n) }
    where
      go : (flag : ℕ) → (flag ≡ 0 → ⊥) → Fixed (record { 0 = signed_at t (p + 8) }) ≡ value_of flag (signed_at t (p + 8))
      go zero n = absurd (n refl)
      go (suc flag) n = refl

-- ---- where its names end
module _ {t : List ℕ} (p : OfKind 2 t) where
  stands : Stands price_body t 1 (second_stop t 1) 29 (PriceRecord (row_at t 1 (name_stop t 1) (second_stop t 1)))
  stands = price_parts t 1 (body_ok t 2 p.ok p.kind)

  pub price_first : 1 < length t
  price_first = first_there 2 p (λ a c. PriceRecord (row_at t 1 a c)) stands

  module _ {a x : ℕ} (e : Number (name_stop t 1) x a) where
    pub price_second : a < length t
    price_second = second_there 2 p (λ a c. PriceRecord (row_at t 1 a c)) stands e

    pub price_names : {c y : ℕ} → Number (name_stop t a) y c → TwoNames t a c 29 (PriceRecord (row_at t 1 a c))
    price_names g = two_names 2 p (λ a c. PriceRecord (row_at t 1 a c)) stands e g

    pub price_terms : {c y : ℕ} → Number (name_stop t a) y c → c < length t
    price_terms g = omega (arith, (price_names g).long)

-- ---- the row
module _ (t : List ℕ) (a p : ℕ) (here : TwoNames t a p 29 (PriceRecord (row_at t 1 a p))) where
  pub row_level : OneOf (base ∷ surcharge ∷ discount ∷ []) (get_or t (p + 1) 0)
  unfolding row_at
  row_level = record { is = (in_bounds_lem t (PriceRecord (row_at t 1 a p)) here.is).level }

  pub row_rule : OneOf (1 ∷ 2 ∷ []) (get_or t (p + 2) 0)
  unfolding row_at
  row_rule = record { is = (in_bounds_lem t (PriceRecord (row_at t 1 a p)) here.is).rule }

  pub row_is : {text from to up_to rounding : ℕ} {level : Level} {rule : Rule} {value : Value}
      → LevelIs (get_or t (p + 1) 0) level → RuleIs (get_or t (p + 2) 0) rule → ValueIs t p value → Number (number_at 4 t (p + 3)) 4294967296 text → Number (number_at 4 t (p + 15)) 4294967296 from
      → Number (number_at 4 t (p + 19)) 4294967296 to → Number (number_at 4 t (p + 23)) 4294967296 up_to → Number (number_at 2 t (p + 27)) 65536 rounding
      → RowIs t (record {
        article = record { at = 2; size = a - 2 };
        condition = record { at = a + 1; size = p - (a + 1) };
        sort = get_or t p 0;
        level = level;
        rule = rule;
        text = text;
        value = value;
        currency = record { 0 = get_or t (p + 12) 0; 1 = get_or t (p + 13) 0; 2 = get_or t (p + 14) 0 };
        from = from;
        to = to;
        upto = up_to;
        rounding = rounding;
      })
  unfolding row_at row_in
  row_is l m v p₁ p₂ p₃ p₄ p₅ = record {
    is = here.is ∙ rw (taken_are t p 3 12 (omega (arith, here.long)), p₁.is, p₂.is, p₃.is, p₄.is, p₅.is, v.is, l.is, m.is);
    article_in_lem = omega (arith, here.low, here.middle, here.long);
    condition_in = omega (arith, here.middle, here.long);
    value_in = rw v.is (in_bounds_lem t (PriceRecord (row_at t 1 a p)) here.is).value;
  }

-- ---- of an article and sort

-- a record that is of no price of the article
of_another : (number : List ℕ) (sort : ℕ) (o : Option Record) → row_of number o ≡ false → is_row number sort o ≡ false
unfolding starts_with is_row
of_another number sort none f = refl
of_another number sort (some r) f = go (as_row r) (sym (row_read number r) ∙ f)
  where
    go : (o : Option Row) → if_some o false (λ p. same p.article number) ≡ false → if_some o false (λ p. same p.article number && eqb p.sort sort) ≡ false
    go none f = refl
    go (some p) f = ap (λ x. x && eqb p.sort sort) f

module _ (t number : List ℕ) (sort : ℕ) {r : Bool} (said : Says (row_of number (whole kinded t)) r) where
  -- a record of another kind, or of another article
  pub no_row : not r ≡ true → Says (is_row number sort (whole kinded t)) false
  no_row e = record { is = of_another number sort (whole kinded t) (said.is ∙ not_so r e) }

  module _ (e : not r ≡ false) (a : Accepted t) where
    pub row_here : OfKind 2 t
    row_here = starts_kind number a said (so r e)

    pub row_told : {n c x y : ℕ} → Number (name_stop t 1) x n → Number (name_stop t n) y c → Says (is_row number sort (whole kinded t)) (eqb (get_or t c 0) sort)
    unfolding starts_with is_row row_at
    row_told {c = c} f g =
        let here = price_names row_here f g in
        let mine = sym (ap (row_of number) here.is) ∙ (said.is ∙ so r e) in
        record { is = ap (is_row number sort) here.is ∙ ap (λ x. x && eqb (get_or t c 0) sort) mine }

-- whatever is a row of the article and sort is a price record
pub row_kind : {t : List ℕ} (number : List ℕ) (sort : ℕ) {r : Bool} → Accepted t → Says (is_row number sort (whole kinded t)) r → r ≡ true → OfKind 2 t
row_kind {t} number sort p said e = told_kind t 2 p said e (λ n. record { is = of_another number sort (whole kinded t) (starts_not t 2 number p n).is })
