-- Groups of fields: names, kinds, the value, the dates and the quantity.
use Prim.Native.Nat.{ℕ, zero, suc, ◌-◌, ◌≤◌, ◌<◌}
use mathlib.Core.Path.{◌≡◌, refl, ◌∙◌, ap}
use mathlib.Core.Bool.{Bool, true, false}
use mathlib.Core.List.{List, [], ◌∷◌}
use mathlib.Core.Option.{Option, some, none}
use native.Mathlib.Omega.{arith}
use lib.Dec.{leb}
use lib.IntN.{ℤ, pos, negsuc}
use borrow.Author.Tests.{lt-leb, leb-false, le-ltb, ltb-false}
use Rattle.rules.specs.Lists.{if_some}
use Rattle.rules.specs.Bytes.{either_side}
use Rattle.rules.specs.BookLayout.{value_of, in_bounds}
use Rattle.rules.specs.declared.Value.{Value}
use Rattle.file_rules.specs.Decimals.{date_in, quantity_in, value_in}
use Rattle.file_rules.specs.PriceLine.{letter_in}
use Rattle.layout.specs.Reads.{only}
use Rattle.layout.specs.Ensures.{Says}
use Rattle.fields.specs.declared.field.Field.{Field}
use Rattle.fields.specs.Given.{Gives, GivesNone}
use Rattle.fields.specs.Field.{text_of}
use Rattle.figures.specs.declared.Amount.{Amount}
use Rattle.figures.specs.Figures.{most_cents, signed_by, near, AmountIs}
use Rattle.price_line.specs.Line.{all_three, kinds_in, span_in, worth_in, Kinded, Worth, ValueAre, Spanned}

-- ---- three of a kind

module _ {A B C : Type 0} where
  pub three_first : (a : Option A) (b : Option B) (c : Option C) → a ≡ none → all_three a b c ≡ none
  three_first a b c e = ap (λ (o : Option A). all_three o b c) e

  pub three_second : (a : Option A) (b : Option B) (c : Option C) → b ≡ none → all_three a b c ≡ none
  three_second none b c e = refl
  three_second (some x) b c e = ap (λ (o : Option B). all_three (some x) o c) e

  pub three_third : (a : Option A) (b : Option B) (c : Option C) → c ≡ none → all_three a b c ≡ none
  three_third none b c e = refl
  three_third (some x) none c e = refl
  three_third (some x) (some y) c e = ap (λ (o : Option C). all_three (some x) (some y) o) e

  pub three_all : (a : Option A) (b : Option B) (c : Option C) {x : A} {y : B} {z : C} → a ≡ some x → b ≡ some y → c ≡ some z
      → all_three a b c ≡ some (x, (y, z))
  three_all a b c {x = x} {y = y} e f g =
      ap (λ (o : Option A). all_three o b c) e
      ∙ (ap (λ (o : Option B). all_three (some x) o c) f ∙ ap (λ (o : Option C). all_three (some x) (some y) o) g)

module _ (s l r : List ℕ) where
  abbrev sort : Option ℕ
  sort = letter_in (83 ∷ 80 ∷ []) s

  abbrev level : Option ℕ
  level = letter_in (66 ∷ 88 ∷ 68 ∷ []) l

  abbrev rule : Option ℕ
  rule = letter_in (49 ∷ 50 ∷ []) r

  pub no_sort : GivesNone sort → GivesNone (kinds_in s l r)
  unfolding kinds_in
  no_sort p = record { is = three_first sort level rule p.is }

  pub no_level : GivesNone level → GivesNone (kinds_in s l r)
  unfolding kinds_in
  no_level p = record { is = three_second sort level rule p.is }

  pub no_rule : GivesNone rule → GivesNone (kinds_in s l r)
  unfolding kinds_in
  no_rule p = record { is = three_third sort level rule p.is }

module _ {line : List ℕ} (s l r : Field) where
  pub kinds_are : {a b c : ℕ} → Gives (sort (text_of line s) (text_of line l) (text_of line r)) a
      → Gives (level (text_of line s) (text_of line l) (text_of line r)) b → Gives (rule (text_of line s) (text_of line l) (text_of line r)) c
      → Kinded line s l r (record { sort = a; level = b; rule = c })
  unfolding kinds_in
  kinds_are p q t = record {
    is = three_all (sort (text_of line s) (text_of line l) (text_of line r))
        (level (text_of line s) (text_of line l) (text_of line r)) (rule (text_of line s) (text_of line l) (text_of line r)) p.is q.is t.is;
  }

module _ (a b q : List ℕ) where
  pub no_from : GivesNone (date_in a) → GivesNone (span_in a b q)
  unfolding span_in
  no_from p = record { is = three_first (date_in a) (date_in b) (quantity_in q) p.is }

  pub no_to : GivesNone (date_in b) → GivesNone (span_in a b q)
  unfolding span_in
  no_to p = record { is = three_second (date_in a) (date_in b) (quantity_in q) p.is }

  pub no_upto : GivesNone (quantity_in q) → GivesNone (span_in a b q)
  unfolding span_in
  no_upto p = record { is = three_third (date_in a) (date_in b) (quantity_in q) p.is }

module _ {line : List ℕ} (a b q : Field) where
  pub span_is : {x y z : ℕ} → Gives (date_in (text_of line a)) x → Gives (date_in (text_of line b)) y → Gives (quantity_in (text_of line q)) z
      → Spanned line a b q (record { from = x; to = y; upto = z })
  unfolding span_in
  span_is p r t = record { is = three_all (date_in (text_of line a)) (date_in (text_of line b)) (quantity_in (text_of line q)) p.is r.is t.is }

-- ---- the value: beyond what any price has it is out of bounds, whichever sort it is of

far : (z : ℤ) → either_side most_cents z ≡ false → (k : ℕ) → in_bounds (value_of k z) ≡ false
far z e (suc k) = e
far (pos n) e zero = lt-leb n 100_000 (omega (arith, leb-false n most_cents e))
far (negsuc n) e zero = le-ltb n 100_000 (omega (arith, ltb-false n most_cents e))

abbrev by_flag : Option ℕ → ℤ → Option Value
by_flag f h = if_some f none (λ fixed. only (in_bounds (value_of (fixed - 48) h)) (value_of (fixed - 48) h))

far_none : (f : Option ℕ) (z : ℤ) → either_side most_cents z ≡ false → by_flag f z ≡ none
far_none none z e = refl
far_none (some k) z e = ap (λ (b : Bool). only b (value_of (k - 48) z)) (far z e (k - 48))

-- an amount beyond all prices counts as none
near_only : (v : Option ℤ) (f : Option ℕ) → if_some v none (by_flag f) ≡ if_some (near v) none (by_flag f)
near_only none f = refl
near_only (some z) f = by (either_side most_cents z) refl
  where
    by : (b : Bool) → either_side most_cents z ≡ b → by_flag f z ≡ if_some (only b z) none (by_flag f)
    by true e = refl
    by false e = far_none f z e

module _ (v f : List ℕ) where
  by_near : worth_in v f ≡ if_some (near (value_in v)) none (by_flag (letter_in (48 ∷ 49 ∷ []) f))
  unfolding worth_in
  by_near = near_only (value_in v) (letter_in (48 ∷ 49 ∷ []) f)

  pub no_amount : GivesNone (near (value_in v)) → GivesNone (worth_in v f)
  no_amount p = record { is = by_near ∙ ap (λ (o : Option ℤ). if_some o none (by_flag (letter_in (48 ∷ 49 ∷ []) f))) p.is }

  module _ {a : Amount} (p : AmountIs v a) where
    with_amount : worth_in v f ≡ by_flag (letter_in (48 ∷ 49 ∷ []) f) (signed_by a.minus a.hundredths)
    with_amount = by_near ∙ ap (λ (o : Option ℤ). if_some o none (by_flag (letter_in (48 ∷ 49 ∷ []) f))) p.is

    pub no_flag : GivesNone (letter_in (48 ∷ 49 ∷ []) f) → GivesNone (worth_in v f)
    no_flag q = record { is = with_amount ∙ ap (λ (o : Option ℕ). by_flag o (signed_by a.minus a.hundredths)) q.is }

    module _ {k : ℕ} (q : Gives (letter_in (48 ∷ 49 ∷ []) f) k) {b : Bool} (r : Says (in_bounds (Worth k a)) b) where
      with_flag : worth_in v f ≡ only b (Worth k a)
      with_flag =
          with_amount ∙ (ap (λ (o : Option ℕ). by_flag o (signed_by a.minus a.hundredths)) q.is ∙ ap (λ (t : Bool). only t (Worth k a)) r.is)

      pub no_bounds : b ≡ false → GivesNone (worth_in v f)
      no_bounds e = record { is = with_flag ∙ ap (λ (t : Bool). only t (Worth k a)) e }

      pub worth_is : b ≡ true → Gives (worth_in v f) (Worth k a)
      worth_is e = record { is = with_flag ∙ ap (λ (t : Bool). only t (Worth k a)) e }

pub priced_is : {line : List ℕ} {v f : Field} {a : Amount} {k : ℕ} → Gives (worth_in (text_of line v) (text_of line f)) (Worth k a)
    → ValueAre line v f (record { amount = a; flag = k })
priced_is p = record { is = p.is }

-- ---- bounds, whatever the sign

within : (most : ℕ) (b : Bool) (n : ℕ) → either_side most (signed_by b n) ≡ leb n most
within most true zero = refl
within most true (suc n) = refl
within most false n = refl

pub range_share : (flag : ℕ) (a : Amount) → flag ≤ 48 → Says (in_bounds (Worth flag a)) (leb a.hundredths 100000)
range_share flag a h =
    let e : flag - 48 ≡ 0 = omega arith in
    record { is = ap (λ (k : ℕ). in_bounds (value_of k (signed_by a.minus a.hundredths))) e ∙ within 100000 a.minus a.hundredths }

pub range_amount : (flag : ℕ) (a : Amount) → 48 < flag → Says (in_bounds (Worth flag a)) (leb a.hundredths 100000000)
range_amount flag a h =
    let e : flag - 48 ≡ suc (flag - 49) = omega arith in
    record { is = ap (λ (k : ℕ). in_bounds (value_of k (signed_by a.minus a.hundredths))) e ∙ within 100000000 a.minus a.hundredths }
