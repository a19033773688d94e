-- The thirteen fields are the row: what the layout of a line makes of them, field by field.
use Prim.Native.Nat.{ℕ, ◌+◌, ◌-◌, ◌≤◌, ◌<◌}
use mathlib.Core.Path.{◌≡◌, refl, sym, ◌∙◌, ap}
use mathlib.Core.Bool.{Bool, true, false, ◌&&◌, false≢true}
use mathlib.Core.List.{List, [], ◌∷◌}
use mathlib.Core.Option.{Option, some, none}
use native.Mathlib.Omega.{arith}
use lib.Dec.{eqb}
use lib.ListN.{length, drop, drop_of_length-le, length-drop}
use lib.Seq.{drop-cons, drop-drop}
use borrow.Author.Tests.{eqb-true, eqb-false, eq-eqb, ne_eqb}
use Rattle.rules.specs.Lists.{all, between, if_some}
use Rattle.rules.specs.Layout.{Layout, and_then, ◌>>=◌, give_if, ◌such◌, must, back, whole, wholly}
use Rattle.rules.specs.Bytes.{name_byte}
use Rattle.rules.specs.BookLayout.{value_of, in_bounds}
use Rattle.rules.specs.declared.Value.{Value}
use Rattle.rules.specs.declared.Currency.{Currency}
use Rattle.file_rules.specs.Fields.{semicolon, field, next_field}
use Rattle.file_rules.specs.Decimals.{date_in, quantity_in, value_in}
use Rattle.file_rules.specs.PriceLine.{NamedRow, ◌meaning◌, is_name, letter_in, is_currency, is_empty, price_line}
use Rattle.rules.proofs.TestLaws.{and_left, and_right, between_high}
use Rattle.layout.specs.Reads.{only, when}
use Rattle.layout.specs.Ensures.{Says}
use Rattle.fields.specs.declared.field.Field.{Field}
use Rattle.fields.specs.Given.{GivesNone}
use Rattle.fields.specs.Field.{text_of, TextIs, NextIs}
use Rattle.fields.proofs.EndLaws.{next_behind}
use Rattle.figures.specs.Figures.{CapitalsAre}
use Rattle.price_line.specs.declared.Kinds.{Kinds}
use Rattle.price_line.specs.declared.Priced.{Priced}
use Rattle.price_line.specs.declared.Span.{Span}
use Rattle.price_line.specs.declared.PriceLine.{PriceLine}
use Rattle.price_line.specs.Line.{nth, FieldsAre, all_three, kinds_in, worth_in, span_in, Kinded, Worth, ValueAre, Spanned, row_on, LineIs}
use Rattle.price_line.proofs.FieldsLaws.{field_text}

-- ---- where a name starts

module _ {line : List ℕ} {at : ℕ} {f g : Field} (p : NextIs line at f) (q : NextIs line f.next g) where
  behind : (u : List ℕ) × (drop at line ≡ semicolon ∷ u) × (field u ≡ some (text_of line f, drop f.next line))
  behind = next_behind (drop at line) p.reads.is

  after : (u : List ℕ) × (drop f.next line ≡ semicolon ∷ u) × (field u ≡ some (text_of line g, drop g.next line))
  after = next_behind (drop f.next line) q.reads.is

  rest_at : drop (at + 1) line ≡ behind.0
  rest_at = sym (drop-drop 1 at line) ∙ ap (drop 1) behind.1

  starts_at : at + 1 ≤ length line
  starts_at = omega (arith, length-drop at line, ap length behind.1)

  starts_reads : field (drop (at + 1) line) ≡ some (text_of line f, semicolon ∷ after.0)
  starts_reads = ap field rest_at ∙ (behind.2 ∙ ap (λ (u : List ℕ). some (text_of line f, u)) after.1)

-- ---- one field: what its text means decides

module _ {A B : Type 0} where
  under : (o : Option A) {f g : A → Option B} → ((a : A) → f a ≡ g a) → if_some o none f ≡ if_some o none g
  under none h = refl
  under (some a) h = h a

  no_some : (o : Option A) → if_some {A = A} {B = Option B} o none (λ a. none) ≡ none
  no_some none = refl
  no_some (some a) = refl

no_when : {A : Type 0} (b : Bool) → when {A = A} b none ≡ none
no_when true = refl
no_when false = refl

module _ {B : Type 0} (m : Layout (List ℕ)) {s t rest : List ℕ} (e : m s ≡ some (t, rest)) where
  such_then : (p : List ℕ → Bool) (K : List ℕ → Layout B) → wholly (((m such p) >>= K) s) ≡ when (p t) (wholly (K t rest))
  such_then p K = ap (λ (o : Option (List ℕ × List ℕ)). wholly (and_then (and_then o (λ a. give_if (p a) a)) K)) e ∙ by (p t)
    where
      by : (b : Bool) → wholly (and_then (give_if b t rest) K) ≡ when b (wholly (K t rest))
      by true = refl
      by false = refl

  meaning_then : {A : Type 0} (f : List ℕ → Option A) (K : A → Layout B)
      → wholly (((m meaning f) >>= K) s) ≡ if_some (f t) none (λ a. wholly (K a rest))
  meaning_then f K = ap (λ (o : Option (List ℕ × List ℕ)). wholly (and_then (and_then o (λ a. back (f a))) K)) e ∙ by (f t)
    where
      by : (o : Option _) → wholly (and_then (back o rest) K) ≡ if_some o none (λ a. wholly (K a rest))
      by none = refl
      by (some a) = refl

module _ {B : Type 0} {s : List ℕ} {at : ℕ} {f : Field} (q : NextIs s at f) where
  next_such : (p : List ℕ → Bool) (K : List ℕ → Layout B)
      → wholly (((next_field such p) >>= K) (drop at s)) ≡ when (p (text_of s f)) (wholly (K (text_of s f) (drop f.next s)))
  next_such = such_then next_field q.reads.is

  next_meaning : {A : Type 0} (g : List ℕ → Option A) (K : A → Layout B)
      → wholly (((next_field meaning g) >>= K) (drop at s)) ≡ if_some (g (text_of s f)) none (λ a. wholly (K a (drop f.next s)))
  next_meaning = meaning_then next_field q.reads.is

must_then : {B : Type 0} (b : Bool) (K : Unit {0} → Layout B) (s : List ℕ) → wholly ((must b >>= K) s) ≡ when b (wholly (K tt s))
must_then true K s = refl
must_then false K s = refl

give_end : {A : Type 0} (a : A) (s : List ℕ) (at : ℕ) → at ≤ length s → wholly (some (a, drop at s)) ≡ only (eqb at (length s)) a
give_end a s at h = by (eqb at (length s)) refl
  where
    by : (x : Bool) → eqb at (length s) ≡ x → wholly (some (a, drop at s)) ≡ only x a
    by true e = ap (λ (t : List ℕ). wholly (some (a, t))) (drop_of_length-le s {i = at} (omega (arith, eqb-true at (length s) e)))
    by false e = ap (λ (t : List ℕ). wholly (some (a, t))) (drop-cons s at 0 (omega (arith, eqb-false at (length s) e)))

-- ---- groups of fields

three_then : {A B C D : Type 0} (a : Option A) (b : Option B) (c : Option C) (R : A → B → C → Option D)
    → if_some a none (λ x. if_some b none (λ y. if_some c none (R x y))) ≡ if_some (all_three a b c) none (λ k. R k.0 k.1.0 k.1.1)
three_then none b c R = refl
three_then (some x) none c R = refl
three_then (some x) (some y) none R = refl
three_then (some x) (some y) (some z) R = refl

abbrev row_with : List ℕ → List ℕ → ℕ × (ℕ × ℕ) → List ℕ → Value → List ℕ → ℕ × (ℕ × ℕ) → NamedRow
row_with article condition kinds name value currency span =
    record {
      name = name;
      row = record {
        article = article;
        condition = condition;
        sort = kinds.0;
        level = kinds.1.0;
        rule = kinds.1.1 - 48;
        text = 0;
        value = value;
        currency = currency;
        from = span.0;
        to = span.1.0;
        up_to = span.1.1;
        rounding = 0;
      };
    }

-- ---- the whole line

module _ {line : List ℕ} {fs : List Field} (p : FieldsAre line fs) where
  abbrev t : ℕ → List ℕ
  t j = text_of line (nth fs j)

  text : (j : ℕ) → j < 13 → TextIs line (nth fs j)
  text j h = field_text p j h

  -- what stands behind the currency, behind the value, behind the kinds
  abbrev from_span : (ℕ × (ℕ × ℕ) → NamedRow) → Option NamedRow
  from_span R = if_some (span_in (t 9) (t 10) (t 11)) none (λ s. when (is_empty (t 12)) (only (eqb (nth fs 12).next (length line)) (R s)))

  abbrev from_value : (Value → List ℕ → ℕ × (ℕ × ℕ) → NamedRow) → Option NamedRow
  from_value R = if_some (worth_in (t 6) (t 7)) none (λ v. when (is_currency (t 8)) (from_span (R v (t 8))))

  abbrev from_name : ℕ × (ℕ × ℕ) → Option NamedRow
  from_name k = when (all name_byte (t 5)) (from_value (row_with (t 0) (t 1) k (t 5)))

  abbrev from_kinds : Option NamedRow
  from_kinds = if_some (kinds_in (t 2) (t 3) (t 4)) none from_name

  worth_then : (R : Value → Option NamedRow) → if_some (value_in (t 6)) none (λ h. if_some (letter_in (48 ∷ 49 ∷ []) (t 7)) none (λ f.
      when (in_bounds (value_of (f - 48) h)) (R (value_of (f - 48) h)))) ≡ if_some (worth_in (t 6) (t 7)) none R
  unfolding worth_in
  worth_then R = by (value_in (t 6)) (letter_in (48 ∷ 49 ∷ []) (t 7))
    where
      by : (v : Option _) (l : Option ℕ) → if_some v none (λ h. if_some l none (λ f. when (in_bounds (value_of (f - 48) h)) (R (value_of (f - 48) h))))
          ≡ if_some (if_some v none (λ h. if_some l none (λ f. only (in_bounds (value_of (f - 48) h)) (value_of (f - 48) h)))) none R
      by none l = refl
      by (some h) none = refl
      by (some h) (some f) = go (in_bounds (value_of (f - 48) h))
        where
          go : (b : Bool) → when b (R (value_of (f - 48) h)) ≡ if_some (only b (value_of (f - 48) h)) none R
          go true = refl
          go false = refl

  row_is : whole price_line line ≡ when (is_name 1 40 (t 0)) (when (is_name 0 20 (t 1)) from_kinds)
  unfolding kinds_in span_in
  row_is =
      such_then field p.first.reads.is _ _ ∙ ap (when (is_name 1 40 (t 0))) (
      next_such (p.each 0 (omega arith)) _ _ ∙ ap (when (is_name 0 20 (t 1))) (
      (next_meaning (p.each 1 (omega arith)) _ _ ∙ under (letter_in (83 ∷ 80 ∷ []) (t 2)) (λ sort.
      next_meaning (p.each 2 (omega arith)) _ _ ∙ under (letter_in (66 ∷ 88 ∷ 68 ∷ []) (t 3)) (λ level.
      next_meaning (p.each 3 (omega arith)) _ _ ∙ under (letter_in (49 ∷ 50 ∷ []) (t 4)) (λ rule.
      next_such (p.each 4 (omega arith)) _ _ ∙ ap (when (all name_byte (t 5))) (
      (next_meaning (p.each 5 (omega arith)) _ _ ∙ under (value_in (t 6)) (λ h.
      next_meaning (p.each 6 (omega arith)) _ _ ∙ under (letter_in (48 ∷ 49 ∷ []) (t 7)) (λ f.
      must_then (in_bounds (value_of (f - 48) h)) _ _ ∙ ap (when (in_bounds (value_of (f - 48) h))) (
      next_such (p.each 7 (omega arith)) _ _ ∙ ap (when (is_currency (t 8))) (
      (next_meaning (p.each 8 (omega arith)) _ _ ∙ under (date_in (t 9)) (λ from.
      next_meaning (p.each 9 (omega arith)) _ _ ∙ under (date_in (t 10)) (λ to.
      next_meaning (p.each 10 (omega arith)) _ _ ∙ under (quantity_in (t 11)) (λ up_to.
      next_such (p.each 11 (omega arith)) _ _ ∙ ap (when (is_empty (t 12))) (
      give_end _ line _ (text 12 (omega arith)).next_fits)))))
      ∙ three_then (date_in (t 9)) (date_in (t 10)) (quantity_in (t 11)) (λ x y z. when (is_empty (t 12))
      (only (eqb (nth fs 12).next (length line)) (row_with (t 0) (t 1) (sort, (level, rule)) (t 5) (value_of (f - 48) h) (t 8) (x, (y, z))))))))))
      ∙ worth_then (λ v. when (is_currency (t 8)) (from_span (row_with (t 0) (t 1) (sort, (level, rule)) (t 5) v (t 8)))))))))
      ∙ three_then (letter_in (83 ∷ 80 ∷ []) (t 2)) (letter_in (66 ∷ 88 ∷ 68 ∷ []) (t 3)) (letter_in (49 ∷ 50 ∷ []) (t 4)) (λ x y z. from_name (x, (y, z)))))

  -- ---- where one part means nothing, there is no row

  in_kinds : ((k : ℕ × (ℕ × ℕ)) → from_name k ≡ none) → GivesNone (whole price_line line)
  in_kinds h =
      record {
        is = row_is
            ∙ (ap (when (is_name 1 40 (t 0))) (ap (when (is_name 0 20 (t 1))) (under (kinds_in (t 2) (t 3) (t 4)) h ∙ no_some (kinds_in (t 2) (t 3) (t 4)))
            ∙ no_when (is_name 0 20 (t 1))) ∙ no_when (is_name 1 40 (t 0)));
      }

  in_value : ((R : List ℕ → ℕ × (ℕ × ℕ) → NamedRow) → when (is_currency (t 8)) (from_span (R (t 8))) ≡ none) → GivesNone (whole price_line line)
  in_value h =
      in_kinds (λ k. ap (when (all name_byte (t 5))) (under (worth_in (t 6) (t 7)) (λ v. h (row_with (t 0) (t 1) k (t 5) v)) ∙ no_some (worth_in (t 6) (t 7)))
      ∙ no_when (all name_byte (t 5)))

  in_span : ((r : NamedRow) → when (is_empty (t 12)) (only (eqb (nth fs 12).next (length line)) r) ≡ none) → GivesNone (whole price_line line)
  in_span h =
      in_value (λ R. ap (when (is_currency (t 8))) (under (span_in (t 9) (t 10) (t 11)) (λ s. h (R (t 8) s)) ∙ no_some (span_in (t 9) (t 10) (t 11)))
      ∙ no_when (is_currency (t 8)))

  pub names_not : {b : Bool} → Says ((is_name 1 40 (t 0) && is_name 0 20 (t 1)) && all name_byte (t 5)) b → b ≡ false → GivesNone (whole price_line line)
  names_not q e = record { is = row_is ∙ by (is_name 1 40 (t 0)) (is_name 0 20 (t 1)) (all name_byte (t 5)) (q.is ∙ e) }
    where
      by : (x y z : Bool) → ((x && y) && z) ≡ false
          → when x (when y (if_some (kinds_in (t 2) (t 3) (t 4)) none (λ k. when z (from_value (row_with (t 0) (t 1) k (t 5)))))) ≡ none
      by true true true f = absurd (false≢true (sym f))
      by true true false f = no_some (kinds_in (t 2) (t 3) (t 4))
      by true false z f = refl
      by false y z f = refl

  pub kinds_not : GivesNone (kinds_in (t 2) (t 3) (t 4)) → GivesNone (whole price_line line)
  kinds_not q =
      record {
        is = row_is
            ∙ (ap (when (is_name 1 40 (t 0))) (ap (when (is_name 0 20 (t 1))) (ap (λ (o : Option (ℕ × (ℕ × ℕ))). if_some o none from_name) q.is)
            ∙ no_when (is_name 0 20 (t 1))) ∙ no_when (is_name 1 40 (t 0)));
      }

  pub priced_not : GivesNone (worth_in (t 6) (t 7)) → GivesNone (whole price_line line)
  priced_not q =
      in_kinds (λ k. ap (when (all name_byte (t 5)))
      (ap (λ (o : Option Value). if_some o none (λ v. when (is_currency (t 8)) (from_span (row_with (t 0) (t 1) k (t 5) v (t 8))))) q.is)
      ∙ no_when (all name_byte (t 5)))

  pub currency_not : Says (is_currency (t 8)) false → GivesNone (whole price_line line)
  currency_not q = in_value (λ R. ap (λ (b : Bool). when b (from_span (R (t 8)))) q.is)

  pub span_not : GivesNone (span_in (t 9) (t 10) (t 11)) → GivesNone (whole price_line line)
  span_not q =
      in_value (λ R. ap (when (is_currency (t 8)))
      (ap (λ (o : Option (ℕ × (ℕ × ℕ))). if_some o none (λ s. when (is_empty (t 12)) (only (eqb (nth fs 12).next (length line)) (R (t 8) s)))) q.is)
      ∙ no_when (is_currency (t 8)))

  pub last_full : ((nth fs 12).count ≡ 0 → ⊥) → GivesNone (whole price_line line)
  last_full n =
      in_span (λ r. ap (λ (b : Bool). when b (only (eqb (nth fs 12).next (length line)) r)) (ne_eqb (length (t 12)) 0
      (λ e. n (sym (text 12 (omega arith)).count ∙ e))))

  pub last_behind : ((nth fs 12).next ≡ length line → ⊥) → GivesNone (whole price_line line)
  last_behind n =
      in_span (λ r. ap (λ (b : Bool). when (is_empty (t 12)) (only b r)) (ne_eqb (nth fs 12).next (length line) n) ∙ no_when (is_empty (t 12)))

  -- ---- and where each of them means something, there is

  module _ {b : Bool} (names : Says ((is_name 1 40 (t 0) && is_name 0 20 (t 1)) && all name_byte (t 5)) b) (g : b ≡ true)
      {k : Kinds} (kinds : Kinded line (nth fs 2) (nth fs 3) (nth fs 4) k) {v : Priced} (value : ValueAre line (nth fs 6) (nth fs 7) v)
      {c : Currency} (capitals : CapitalsAre (t 8) c) {s : Span} (span : Spanned line (nth fs 9) (nth fs 10) (nth fs 11) s)
      (empty : (nth fs 12).count ≡ 0) (end : (nth fs 12).next ≡ length line) where
    abbrev read : PriceLine
    read = record { article = nth fs 0; condition = nth fs 1; name = nth fs 5; start = (nth fs 4).next + 1; kinds = k; priced = v; currency = c; span = s }

    is_all : ((is_name 1 40 (t 0) && is_name 0 20 (t 1)) && all name_byte (t 5)) ≡ true
    is_all = names.is ∙ g

    is_article : is_name 1 40 (t 0) ≡ true
    is_article = and_left (is_name 1 40 (t 0)) _ (and_left (is_name 1 40 (t 0) && is_name 0 20 (t 1)) _ is_all)

    is_condition : is_name 0 20 (t 1) ≡ true
    is_condition = and_right (is_name 1 40 (t 0)) _ (and_left (is_name 1 40 (t 0) && is_name 0 20 (t 1)) _ is_all)

    is_named : all name_byte (t 5) ≡ true
    is_named = and_right (is_name 1 40 (t 0) && is_name 0 20 (t 1)) _ is_all

    abbrev made : Value → List ℕ → ℕ × (ℕ × ℕ) → NamedRow
    made = row_with (t 0) (t 1) (k.sort, (k.level, k.rule)) (t 5)

    the_row : whole price_line line ≡ some (row_on line read)
    unfolding row_on
    the_row =
        row_is
        ∙ (ap (λ (b : Bool). when b (when (is_name 0 20 (t 1)) from_kinds)) is_article
        ∙ (ap (λ (b : Bool). when b from_kinds) is_condition
        ∙ (ap (λ (o : Option (ℕ × (ℕ × ℕ))). if_some o none from_name) kinds.is
        ∙ (ap (λ (b : Bool). when b (from_value made)) is_named
        ∙ (ap (λ (o : Option Value). if_some o none (λ v. when (is_currency (t 8)) (from_span (made v (t 8))))) value.is
        ∙ (ap (λ (b : Bool). when b (from_span (made (Worth v.flag v.amount) (t 8)))) capitals.good
        ∙ (ap (λ (o : Option (ℕ × (ℕ × ℕ))). if_some o none
        (λ s. when (is_empty (t 12)) (only (eqb (nth fs 12).next (length line)) (made (Worth v.flag v.amount) (t 8) s)))) span.is
        ∙ (ap (λ (b : Bool). when b (only (eqb (nth fs 12).next (length line)) (made (Worth v.flag v.amount) (t 8) (s.from, (s.to, s.upto)))))
        (eq-eqb (length (t 12)) 0 ((text 12 (omega arith)).count ∙ empty))
        ∙ (ap (λ (b : Bool). only b (made (Worth v.flag v.amount) (t 8) (s.from, (s.to, s.upto)))) (eq-eqb (nth fs 12).next (length line) end)
        ∙ ap (λ (x : List ℕ). some (made (Worth v.flag v.amount) x (s.from, (s.to, s.upto)))) capitals.is)))))))))

    pub line_is : LineIs line read
    line_is = record {
      is = the_row;
      article = text 0 (omega arith);
      condition = text 1 (omega arith);
      name = text 5 (omega arith);
      starts = record {
        fits = starts_at (p.each 4 (omega arith)) (p.each 5 (omega arith));
        rest = (after (p.each 4 (omega arith)) (p.each 5 (omega arith))).0;
        reads = starts_reads (p.each 4 (omega arith)) (p.each 5 (omega arith));
      };
      short = (
        omega (arith, (text 0 (omega arith)).count, between_high 1 40 (length (t 0)) (and_left (between 1 40 (length (t 0))) _ is_article)),
        omega (arith, (text 1 (omega arith)).count, between_high 0 20 (length (t 1)) (and_left (between 0 20 (length (t 1))) _ is_condition)),
      );
    }
