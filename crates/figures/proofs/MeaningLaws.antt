-- Numbers, dates, amounts and letters are read from the bytes between a field's quotes: where quotes in these stand twice, text and bytes are bad
-- alike.
use Prim.Native.Nat.{ℕ}
use mathlib.Core.Path.{◌≡◌, refl, sym, ◌∙◌, ap}
use mathlib.Core.Logic.{inl, inr}
use mathlib.Core.Bool.{Bool, true, false, ◌&&◌, ◌||◌, false≢true}
use mathlib.Core.List.{List, [], ◌∷◌, ◌++◌}
use mathlib.Core.Option.{Option, some, none}
use lib.Dec.{eqb, leb}
use lib.IntN.{pos}
use lib.ListN.{length, take, drop}
use borrow.Author.Tests.{eqb-true}
use Rattle.rules.specs.Lists.{all, any, between, if_some}
use Rattle.file_rules.specs.Fields.{cut}
use Rattle.file_rules.specs.Decimals.{is_digit, tens, quantity_in, date_in, cents_of, cents_in, minus, value_by, value_in}
use Rattle.file_rules.specs.PriceLine.{letter_in, is_currency}
use Rattle.rules.proofs.TestLaws.{and_false}
use Rattle.file_rules.proofs.FieldLaws.{cut_on, cut_at}
use Rattle.layout.specs.Reads.{only, part}
use Rattle.fields.specs.declared.field.Field.{Field}
use Rattle.fields.specs.Field.{Stands, text_of, TextIs}

-- ---- a quote breaks each of them

module _ (p : ℕ → Bool) (h : p 34 ≡ false) where
  not_all : (s : List ℕ) → any (eqb 34) s ≡ true → all p s ≡ false
  not_all [] e = absurd (false≢true e)
  not_all (b ∷ s) e = by (eqb 34 b) refl e (not_all s)
    where
      by : (x : Bool) → eqb 34 b ≡ x → (x || any (eqb 34) s) ≡ true → (any (eqb 34) s ≡ true → all p s ≡ false) → (p b && all p s) ≡ false
      by true f e i = ap (λ (t : Bool). t && all p s) (sym (ap p (eqb-true 34 b f)) ∙ h)
      by false f e i = ap (λ (t : Bool). p b && t) (i e) ∙ and_false (p b)

quantity_quote : (s : List ℕ) → any (eqb 34) s ≡ true → quantity_in s ≡ none
unfolding quantity_in
quantity_quote s e = ap (λ (b : Bool). only (b && (leb 1 (length s) && leb (tens s) 4_294_967_295)) (tens s)) (not_all is_digit refl s e)

date_quote : (s : List ℕ) → any (eqb 34) s ≡ true → date_in s ≡ none
unfolding date_in
date_quote [] e = absurd (false≢true e)
date_quote (d ∷ ds) e = ap (λ (b : Bool). only (b && eqb (length (d ∷ ds)) 8) (tens (d ∷ ds))) (not_all is_digit refl (d ∷ ds) e)

currency_quote : (s : List ℕ) → any (eqb 34) s ≡ true → is_currency s ≡ false
currency_quote s e = ap (λ (b : Bool). eqb (length s) 3 && b) (not_all (between 65 90) refl s e) ∙ and_false (eqb (length s) 3)

letter_quote : (few s : List ℕ) → any (eqb 34) few ≡ false → any (eqb 34) s ≡ true → letter_in few s ≡ none
letter_quote few [] h e = refl
letter_quote few (b ∷ []) h e = ap (λ (x : Bool). only x b) (by (eqb 34 b) refl e)
  where
    by : (x : Bool) → eqb 34 b ≡ x → (x || false) ≡ true → any (eqb b) few ≡ false
    by true f e = ap (λ (k : ℕ). any (eqb k) few) (sym (eqb-true 34 b f)) ∙ h
    by false f e = absurd (false≢true e)
letter_quote few (b ∷ (c ∷ s)) h e = refl

cut_quote : (s : List ℕ) → any (eqb 34) s ≡ true → (any (eqb 34) (cut 46 s).0 || any (eqb 34) (drop 1 (cut 46 s).1)) ≡ true
cut_quote [] e = absurd (false≢true e)
cut_quote (b ∷ s) e = by (eqb 46 b) (eqb 34 b) refl refl e (cut_quote s)
  where
    by : (x y : Bool) → eqb 46 b ≡ x → eqb 34 b ≡ y → (y || any (eqb 34) s) ≡ true
        → (any (eqb 34) s ≡ true → (any (eqb 34) (cut 46 s).0 || any (eqb 34) (drop 1 (cut 46 s).1)) ≡ true)
        → (any (eqb 34) (cut 46 (b ∷ s)).0 || any (eqb 34) (drop 1 (cut 46 (b ∷ s)).1)) ≡ true
    by true true f g e i = absurd (false≢true (ap (λ (k : ℕ). eqb 34 k) (eqb-true 46 b f) ∙ g))
    by true false f g e i = ap (λ (p : List ℕ × List ℕ). any (eqb 34) p.0 || any (eqb 34) (drop 1 p.1)) (cut_at 46 b s f) ∙ e
    by false true f g e i =
        ap (λ (p : List ℕ × List ℕ). any (eqb 34) p.0 || any (eqb 34) (drop 1 p.1)) (cut_on 46 b s f)
        ∙ ap (λ (t : Bool). (t || any (eqb 34) (cut 46 s).0) || any (eqb 34) (drop 1 (cut 46 s).1)) g
    by false false f g e i =
        ap (λ (p : List ℕ × List ℕ). any (eqb 34) p.0 || any (eqb 34) (drop 1 p.1)) (cut_on 46 b s f)
        ∙ (ap (λ (t : Bool). (t || any (eqb 34) (cut 46 s).0) || any (eqb 34) (drop 1 (cut 46 s).1)) g ∙ i e)

cents_quote : (s : List ℕ) → any (eqb 34) s ≡ true → cents_in s ≡ none
cents_quote s e = by (any (eqb 34) w) refl (cut_quote s e)
  where
    w : List ℕ
    w = (cut 46 s).0

    ds : List ℕ
    ds = drop 1 (cut 46 s).1

    rest : Bool
    rest = leb 1 (length (w ++ ds)) && all (eqb 48) (drop 2 ds)

    sum : ℕ
    sum = tens (w ++ take 2 (ds ++ (48 ∷ 48 ∷ [])))

    by : (x : Bool) → any (eqb 34) w ≡ x → (x || any (eqb 34) ds) ≡ true → cents_of w ds ≡ none
    by true f h = ap (λ (b : Bool). only (b && (all is_digit ds && rest)) sum) (not_all is_digit refl w f)
    by false f h =
        ap (λ (b : Bool). only (all is_digit w && (b && rest)) sum) (not_all is_digit refl ds h)
        ∙ ap (λ (b : Bool). only b sum) (and_false (all is_digit w))

value_quote : (s : List ℕ) → any (eqb 34) s ≡ true → value_in s ≡ none
unfolding value_in
value_quote [] e = absurd (false≢true e)
value_quote (b ∷ s) e = by (eqb b 45) refl
  where
    by : (x : Bool) → eqb b 45 ≡ x → value_by x (b ∷ s) ≡ none
    by true f =
        ap (λ (o : Option ℕ). if_some o none (λ n. some (minus n))) (cents_quote s (sym (ap (λ (k : ℕ). eqb 34 k || any (eqb 34) s) (eqb-true b 45 f))
        ∙ e))
    by false f = ap (λ (o : Option ℕ). if_some o none (λ n. some (pos n))) (cents_quote (b ∷ s) e)

-- ---- so they may be read from the bytes

both_none : {A : Type 0} (f : List ℕ → Option A) → ((s : List ℕ) → any (eqb 34) s ≡ true → f s ≡ none) → (t r : List ℕ) → Stands t r → f t ≡ f r
both_none f h t r (inl e) = ap f e
both_none f h t r (inr d) = h t d.quotes ∙ sym (h r d.double)

module _ {line : List ℕ} {f : Field} (t : TextIs line f) where
  pub quantity_text : quantity_in (text_of line f) ≡ quantity_in (part line f.from f.to)
  quantity_text = both_none quantity_in quantity_quote (text_of line f) (part line f.from f.to) t.stands

  pub date_text : date_in (text_of line f) ≡ date_in (part line f.from f.to)
  date_text = both_none date_in date_quote (text_of line f) (part line f.from f.to) t.stands

  pub letter_text : (few : List ℕ) → any (eqb 34) few ≡ false → letter_in few (text_of line f) ≡ letter_in few (part line f.from f.to)
  letter_text few h = both_none (letter_in few) (λ s e. letter_quote few s h e) (text_of line f) (part line f.from f.to) t.stands

  pub value_text : value_in (text_of line f) ≡ value_in (part line f.from f.to)
  value_text = both_none value_in value_quote (text_of line f) (part line f.from f.to) t.stands

  pub currency_text : is_currency (text_of line f) ≡ is_currency (part line f.from f.to)
  currency_text = by t.stands
    where
      by : Stands (text_of line f) (part line f.from f.to) → is_currency (text_of line f) ≡ is_currency (part line f.from f.to)
      by (inl e) = ap is_currency e
      by (inr d) = currency_quote (text_of line f) d.quotes ∙ sym (currency_quote (part line f.from f.to) d.double)

  -- a text that is a currency has no quote in it, so it is its bytes
  pub capitals_text : is_currency (part line f.from f.to) ≡ true → text_of line f ≡ part line f.from f.to
  capitals_text g = by t.stands
    where
      by : Stands (text_of line f) (part line f.from f.to) → text_of line f ≡ part line f.from f.to
      by (inl e) = e
      by (inr d) = absurd (false≢true (sym (currency_quote (part line f.from f.to) d.double) ∙ g))
