-- The price file: a line that was written from a row is read as that row, with its text number for the name of its text.
use Prim.Native.Nat.{ℕ, ◌+◌, ◌-◌, ◌^◌, ◌≤◌, ◌<◌}
use mathlib.Core.Path.{◌≡◌, refl, sym, ◌∙◌, ap, subst}
use mathlib.Core.Bool.{Bool, true, false, ◌&&◌, ◌||◌, false≢true}
use mathlib.Core.List.{List, [], ◌∷◌, ◌++◌}
use mathlib.Core.Option.{Option, some}
use native.Mathlib.Omega.{arith}
use lib.Dec.{eqb, leb}
use lib.IntN.{ℤ, pos, negsuc, nat_abs}
use lib.ListN.{length}
use borrow.Author.Tests.{eqb-true, leb-true, ltb-true}
use Rattle.rules.specs.Lists.{all, any, between}
use Rattle.rules.specs.Letters.{letter}
use Rattle.rules.specs.Layout.{Layout, and_then, ◌>>=◌, give_if, ◌such◌, must, back, wholly}
use Rattle.rules.specs.Bytes.{name_byte, capitals, either_side}
use Rattle.rules.specs.Book.{Row, sale, purchase, base, surcharge, discount}
use Rattle.rules.specs.BookLayout.{value_of, in_bounds}
use Rattle.rules.specs.Program.{decimal, digits}
use Rattle.rules.specs.RowBytes.{flag_of, hundredths_of}
use Rattle.file_rules.specs.Fields.{semicolon, space, field, next_field, is_blank, is_remark, field_text, first_field_text}
use Rattle.file_rules.specs.Decimals.{quantity_in, date_in, value_in, date_text, text_text, value_text}
use Rattle.file_rules.specs.PriceLine.{NamedRow, ◌meaning◌, is_name, letter_in, is_currency, is_empty, price_line, alone, brought_by, brought, line_text}
use Rattle.file_rules.specs.PriceFile.{with_text, fits_line}
use Rattle.rules.specs.declared.Value.{Value}
use Rattle.rules.specs.declared.Value.TheVariants.{Fixed, Percent}
use Rattle.rules.proofs.TestLaws.{and_left, and_right, and_false, both}
use Rattle.rules.proofs.ListLaws.{all_append}
use Rattle.file_rules.proofs.FieldLaws.{Ends, plain_read, field_read, first_read, first_no_remark}
use Rattle.file_rules.proofs.DecimalLaws.{plain_byte, plain_needs, plain_capital, all_weaken, only_some, quantity_read, quantity_plain, date_read, date_plain, text_plain, text_name, value_read, value_plain}

-- ---- what a price row of a book is sure to have

pub record SoundRow (r : Row) : Type 0 where
  pub article : is_name 1 40 r.article ≡ true
  pub condition : is_name 0 20 r.condition ≡ true
  pub sort : any (eqb r.sort) (sale ∷ purchase ∷ []) ≡ true
  pub level : any (eqb r.level) (base ∷ surcharge ∷ discount ∷ []) ≡ true
  pub rule : any (eqb r.rule) (1 ∷ 2 ∷ []) ≡ true
  pub text : r.text < 4_294_967_296
  pub value : in_bounds r.value ≡ true
  pub currency : is_currency r.currency ≡ true
  pub from : r.from < 4_294_967_296
  pub to : r.to < 4_294_967_296
  pub up_to : r.up_to < 4_294_967_296
  pub rounding : r.rounding < 65_536

-- ---- field after field

module _ {A B : Type 0} (m : Layout A) where
  then_such : (p : A → Bool) (f : A → Layout B) {s rest : List ℕ} {v : A} {y : Option (B × List ℕ)} → m s ≡ some (v, rest) → p v ≡ true → f v rest ≡ y
      → ((m such p) >>= f) s ≡ y
  then_such p f {s} {rest} {v} {y} e t h =
      ap (λ (o : Option (A × List ℕ)). and_then (and_then o (λ a. give_if (p a) a)) f) e ∙ (ap (λ (b : Bool). and_then (give_if b v rest) f) t ∙ h)

module _ {A B C : Type 0} (m : Layout A) where
  then_meaning : (g : A → Option C) (f : C → Layout B) {s rest : List ℕ} {a : A} {v : C} {y : Option (B × List ℕ)} → m s ≡ some (a, rest)
      → g a ≡ some v → f v rest ≡ y → ((m meaning g) >>= f) s ≡ y
  then_meaning g f {s} {rest} {a} {v} {y} e t h =
      ap (λ (o : Option (A × List ℕ)). and_then (and_then o (λ a. back (g a))) f) e ∙ (ap (λ (o : Option C). and_then (back o rest) f) t ∙ h)

then_must : {B : Type 0} (b : Bool) (f : Unit {0} → Layout B) {s : List ℕ} {y : Option (B × List ℕ)} → b ≡ true → f tt s ≡ y → (must b >>= f) s ≡ y
then_must b f {s} e h = ap (λ (c : Bool). and_then (give_if c tt s) f) e ∙ h

next_plain : (s rest : List ℕ) → all plain_byte s ≡ true → Ends semicolon rest → next_field (59 ∷ (s ++ rest)) ≡ some (s, rest)
unfolding next_field
next_plain s rest e h = plain_read s rest (plain_needs s e) h

next_text : (s rest : List ℕ) → Ends semicolon rest → next_field (59 ∷ (field_text s ++ rest)) ≡ some (s, rest)
unfolding next_field
next_text s rest h = field_read s rest h

-- ---- what the fields stand for

-- what each of a few bytes has, one of them has
pub one_of_such : (p : ℕ → Bool) (b : ℕ) (few : List ℕ) → all p few ≡ true → any (eqb b) few ≡ true → p b ≡ true
one_of_such p b [] e h = absurd (false≢true h)
one_of_such p b (x ∷ few) e h = go (eqb b x) refl (one_of_such p b few (and_right (p x) (all p few) e))
  where
    go : (t : Bool) → eqb b x ≡ t → (any (eqb b) few ≡ true → p b ≡ true) → p b ≡ true
    go true i k = ap p (eqb-true b x i) ∙ and_left (p x) (all p few) e
    go false i k = k (ap (λ t. t || any (eqb b) few) (sym i) ∙ h)

letter_plain : (b : ℕ) (few : List ℕ) → all plain_byte few ≡ true → any (eqb b) few ≡ true → all plain_byte (b ∷ []) ≡ true
letter_plain b few e h = both (plain_byte b) true (one_of_such plain_byte b few e h) refl

letter_read : (b : ℕ) (few : List ℕ) → any (eqb b) few ≡ true → letter_in few (b ∷ []) ≡ some b
letter_read b few h = only_some (any (eqb b) few) b h

-- what two numbers have, one of them has
pub two_cases : (P : ℕ → Type 0) (a b : ℕ) → P a → P b → (n : ℕ) → any (eqb n) (a ∷ b ∷ []) ≡ true → P n
two_cases P a b p q n h = go (eqb n a) (eqb n b) refl refl
  where
    go : (s t : Bool) → eqb n a ≡ s → eqb n b ≡ t → P n
    go true t e f = subst P (sym (eqb-true n a e)) p
    go false true e f = subst P (sym (eqb-true n b f)) q
    go false false e f = absurd (false≢true ((λ i. sym e i || (sym f i || false)) ∙ h))

rule_read : (n : ℕ) → any (eqb n) (1 ∷ 2 ∷ []) ≡ true → letter_in (49 ∷ 50 ∷ []) (decimal n) ≡ some (48 + n)
unfolding digits
rule_read = two_cases (λ n. letter_in (49 ∷ 50 ∷ []) (decimal n) ≡ some (48 + n)) 1 2 refl refl

flag_read : (v : Value) → letter_in (48 ∷ 49 ∷ []) (decimal (flag_of v)) ≡ some (48 + flag_of v)
unfolding digits
flag_read (Fixed c) = refl
flag_read (Percent h) = refl

pub flag_value : (v : Value) → value_of (flag_of v) (hundredths_of v) ≡ v
flag_value (Fixed c) = refl
flag_value (Percent h) = refl

flag_back : (v : Value) → value_of (48 + flag_of v - 48) (hundredths_of v) ≡ v
flag_back (Fixed c) = refl
flag_back (Percent h) = refl

near : (z : ℤ) (n : ℕ) → n < 10 ^ 20 → either_side n z ≡ true → nat_abs z < 10 ^ 20
near (pos m) n l e = let h : m ≤ n = leb-true m n e in omega arith
near (negsuc m) n l e = let h : m < n = ltb-true m n e in omega arith

value_near : (v : Value) → in_bounds v ≡ true → nat_abs (hundredths_of v) < 10 ^ 20
value_near (Fixed c) e = near c.0 100_000_000 (omega arith) e
value_near (Percent h) e = near h.0 100_000 (omega arith) e

-- ---- the line

-- a line with a semicolon is not blank
not_blank : (s t : List ℕ) → is_blank (s ++ (59 ∷ t)) ≡ false
not_blank s t = all_append (λ b. eqb b space || eqb b 9) s (59 ∷ t) ∙ and_false (is_blank s)

-- nor is it a remark, where its first field was written
brings : (s t : List ℕ) → (is_blank (first_field_text s ++ (59 ∷ t)) || is_remark (first_field_text s ++ (59 ∷ t))) ≡ false
brings s t = λ i. not_blank (first_field_text s) t i || first_no_remark s (59 ∷ t) refl i

-- the row without its text number, and the name that stands for it
abbrev pub unnumbered : Row → NamedRow
unnumbered r = record { name = text_text r.text; row = with_text 0 r }

module _ (r : Row) (s : SoundRow r) (f : fits_line r ≡ true) where
  dates : (leb r.from 99_999_999 && leb r.to 99_999_999) ≡ true
  dates = and_right (eqb r.rounding 0) (leb r.from 99_999_999 && leb r.to 99_999_999) f

  from_fits : r.from ≤ 99_999_999
  from_fits = leb-true r.from 99_999_999 (and_left (leb r.from 99_999_999) (leb r.to 99_999_999) dates)

  to_fits : r.to ≤ 99_999_999
  to_fits = leb-true r.to 99_999_999 (and_right (leb r.from 99_999_999) (leb r.to 99_999_999) dates)

  rounding_fits : 0 ≡ r.rounding
  rounding_fits = sym (eqb-true r.rounding 0 (and_left (eqb r.rounding 0) (leb r.from 99_999_999 && leb r.to 99_999_999) f))

  rule_back : 48 + r.rule - 48 ≡ r.rule
  rule_back = omega arith

  same_line : ◌≡◌ {A = NamedRow} (record {
    name = text_text r.text;
    row = record {
      article = r.article;
      condition = r.condition;
      sort = r.sort;
      level = r.level;
      rule = 48 + r.rule - 48;
      text = 0;
      value = value_of (48 + flag_of r.value - 48) (hundredths_of r.value);
      currency = r.currency;
      from = r.from;
      to = r.to;
      up_to = r.up_to;
      rounding = 0;
    };
  }) (unnumbered r)
  same_line = λ i. record {
    name = text_text r.text;
    row = record {
      article = r.article;
      condition = r.condition;
      sort = r.sort;
      level = r.level;
      rule = rule_back i;
      text = 0;
      value = flag_back r.value i;
      currency = r.currency;
      from = r.from;
      to = r.to;
      up_to = r.up_to;
      rounding = rounding_fits i;
    };
  }

  line_fields : price_line (line_text r) ≡ some (unnumbered r, [])
  unfolding line_text
  line_fields =
      then_such field (is_name 1 40) _ (first_read r.article _ refl) s.article
      (then_such next_field (is_name 0 20) _ (next_text r.condition _ refl) s.condition
      (then_meaning next_field (letter_in (sale ∷ purchase ∷ [])) _
      (next_plain (r.sort ∷ []) _ (letter_plain r.sort (sale ∷ purchase ∷ []) refl s.sort) refl)
      (letter_read r.sort (sale ∷ purchase ∷ []) s.sort)
      (then_meaning next_field (letter_in (base ∷ surcharge ∷ discount ∷ [])) _
      (next_plain (r.level ∷ []) _ (letter_plain r.level (base ∷ surcharge ∷ discount ∷ []) refl s.level) refl)
      (letter_read r.level (base ∷ surcharge ∷ discount ∷ []) s.level)
      (then_meaning next_field (letter_in (letter "1" ∷ letter "2" ∷ [])) _ (next_plain (decimal r.rule) _ (quantity_plain r.rule) refl)
      (rule_read r.rule s.rule)
      (then_such next_field (all name_byte) _ (next_plain (text_text r.text) _ (text_plain r.text) refl) (text_name r.text)
      (then_meaning next_field value_in _ (next_plain (value_text (hundredths_of r.value)) _ (value_plain (hundredths_of r.value)) refl)
      (value_read (hundredths_of r.value) (value_near r.value s.value))
      (then_meaning next_field (letter_in (letter "0" ∷ letter "1" ∷ [])) _
      (next_plain (decimal (flag_of r.value)) _ (quantity_plain (flag_of r.value)) refl) (flag_read r.value)
      (then_must (in_bounds (value_of (48 + flag_of r.value - 48) (hundredths_of r.value))) _ (ap in_bounds (flag_back r.value) ∙ s.value)
      (then_such next_field is_currency _
      (next_plain r.currency _ (all_weaken (between 65 90) plain_byte plain_capital r.currency
      (and_right (eqb (length r.currency) 3) (capitals r.currency) s.currency)) refl) s.currency
      (then_meaning next_field date_in _ (next_plain (date_text r.from) _ (date_plain r.from) refl) (date_read r.from from_fits)
      (then_meaning next_field date_in _ (next_plain (date_text r.to) _ (date_plain r.to) refl) (date_read r.to to_fits)
      (then_meaning next_field quantity_in _ (next_plain (decimal r.up_to) _ (quantity_plain r.up_to) refl)
      (quantity_read r.up_to (omega (arith, s.up_to)))
      (then_such next_field is_empty _ (next_plain [] [] refl tt) refl
      (ap (λ (l : NamedRow). some (l, [])) same_line))))))))))))))

  -- no remark, and not blank
  line_starts : (is_blank (line_text r) || is_remark (line_text r)) ≡ false
  unfolding line_text
  line_starts = brings r.article _

  pub line_brought : brought (line_text r) ≡ some (unnumbered r ∷ [])
  unfolding brought
  line_brought = ap (λ b. brought_by b (line_text r)) line_starts ∙ ap (λ (o : Option (NamedRow × List ℕ)). alone (wholly o)) line_fields
