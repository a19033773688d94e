-- The price file: every row that the reader gives is a row as a book may hold it, and one that the writer can write.
use Prim.Native.Nat.{ℕ, suc, ◌+◌, ◌*◌, ◌-◌, ◌^◌, ◌≤◌, ◌<◌}
use mathlib.Core.Path.{◌≡◌, refl, sym, ◌∙◌, ap, subst}
use mathlib.Core.Bool.{Bool, true, false, ◌&&◌, ◌||◌}
use mathlib.Core.List.{List, [], ◌∷◌, ◌++◌}
use mathlib.Core.Option.{Option, some, none, none-ne-some, some-injective}
use native.Mathlib.Omega.{arith}
use native.Mathlib.Nat.{pow-succ', mul_assoc, mul-le-mul_right}
use lib.Dec.{eqb, leb}
use lib.ListN.{length}
use borrow.Author.Tests.{eqb-true, leb-true, le-leb}
use Rattle.rules.specs.Lists.{all, any}
use Rattle.rules.specs.Letters.{letter}
use Rattle.rules.specs.Layout.{Layout, ◌such◌, must, back, whole}
use Rattle.rules.specs.Bytes.{name_byte}
use Rattle.rules.specs.Book.{sale, purchase, base, surcharge, discount}
use Rattle.rules.specs.BookLayout.{value_of, in_bounds}
use Rattle.rules.specs.PlacedRefusals.{Done, ◌>>=◌ as and_then, or_refuse_at}
use Rattle.file_rules.specs.Fields.{field, next_field, is_blank, is_remark}
use Rattle.file_rules.specs.Decimals.{is_digit, tens_from, tens, only, quantity_in, date_in, value_in}
use Rattle.file_rules.specs.PriceLine.{NamedRow, ◌meaning◌, is_name, letter_in, is_currency, is_empty, price_line, alone, brought_by, brought}
use Rattle.file_rules.specs.PriceFile.{with_text, fits_line, lines_from}
use Rattle.rules.proofs.TestLaws.{and_left, and_right, both, between_high}
use Rattle.rules.proofs.ListLaws.{All}
use Rattle.rules.proofs.GivesLaws.{Gives, gives_field, gives_any, gives_value, gives_tested, gives_such, whole_gives}
use Rattle.file_rules.proofs.PriceLineLaws.{SoundRow, one_of_such}
use Rattle.rules.proofs.PlacedRefusalLaws.{then_done, or_done, done_is}

-- ---- what a field stands for

pub only_is : {A : Type 0} (b : Bool) (a : A) {v : A} → only b a ≡ some v → (b ≡ true) × (a ≡ v)
only_is true a {v} e = (refl, some-injective a v e)
only_is false a {v} e = absurd (none-ne-some v e)

letter_is : (few s : List ℕ) (b : ℕ) → letter_in few s ≡ some b → any (eqb b) few ≡ true
letter_is few [] b e = absurd (none-ne-some b e)
letter_is few (c ∷ []) b e = let x = only_is (any (eqb c) few) c e in ap (λ (k : ℕ). any (eqb k) few) (sym x.1) ∙ x.0
letter_is few (c ∷ (d ∷ s)) b e = absurd (none-ne-some b e)

-- k digits make a number below the k-th power of ten
pub tens_below : (n : ℕ) (ds : List ℕ) → all is_digit ds ≡ true → tens_from n ds < suc n * 10 ^ length ds
tens_below n [] e = omega arith
tens_below n (d ∷ ds) e =
    let l : d ≤ 57 = between_high 48 57 d (and_left (is_digit d) (all is_digit ds) e) in
    let i : tens_from (n * 10 + (d - 48)) ds < suc (n * 10 + (d - 48)) * 10 ^ length ds =
    tens_below (n * 10 + (d - 48)) ds (and_right (is_digit d) (all is_digit ds) e) in
    let j : suc (n * 10 + (d - 48)) * 10 ^ length ds ≤ suc n * 10 * 10 ^ length ds = mul-le-mul_right (10 ^ length ds) (omega arith) in
    let k : suc n * 10 * 10 ^ length ds ≡ suc n * 10 ^ suc (length ds) =
    mul_assoc (suc n) 10 (10 ^ length ds) ∙ ap (λ (m : ℕ). suc n * m) (sym (pow-succ' 10 (length ds))) in
    omega arith

date_is : (s : List ℕ) (n : ℕ) → date_in s ≡ some n → n ≤ 99_999_999
unfolding date_in
date_is [] n e = subst (λ (k : ℕ). k ≤ 99_999_999) (some-injective 0 n e) (omega arith)
date_is (d ∷ ds) n e =
    let x = only_is (all is_digit (d ∷ ds) && eqb (length (d ∷ ds)) 8) (tens (d ∷ ds)) e in
    let b : tens (d ∷ ds) < 1 * 10 ^ length (d ∷ ds) = tens_below 0 (d ∷ ds) (and_left (all is_digit (d ∷ ds)) (eqb (length (d ∷ ds)) 8) x.0) in
    let l : length (d ∷ ds) ≡ 8 = eqb-true (length (d ∷ ds)) 8 (and_right (all is_digit (d ∷ ds)) (eqb (length (d ∷ ds)) 8) x.0) in
    let p : 10 ^ length (d ∷ ds) ≡ 100_000_000 = ap (λ (k : ℕ). 10 ^ k) l in
    let q : tens (d ∷ ds) < 1 * 100_000_000 = subst (λ (k : ℕ). tens (d ∷ ds) < 1 * k) p b in
    subst (λ (k : ℕ). k ≤ 99_999_999) x.1 (omega (arith, q))

quantity_is : (s : List ℕ) (n : ℕ) → quantity_in s ≡ some n → n ≤ 4_294_967_295
unfolding quantity_in
quantity_is s n e =
    let x = only_is (all is_digit s && (leb 1 (length s) && leb (tens s) 4_294_967_295)) (tens s) e in
    subst (λ (k : ℕ). k ≤ 4_294_967_295) x.1
    (leb-true (tens s) 4_294_967_295
    (and_right (leb 1 (length s)) (leb (tens s) 4_294_967_295) (and_right (all is_digit s) (leb 1 (length s) && leb (tens s) 4_294_967_295) x.0)))

-- ---- a line

module _ {A C : Type 0} (m : Layout A) (g : A → Option C) {P : C → Type 0} where
  gives_meaning : ((a : A) (c : C) → g a ≡ some c → P c) → Gives (m meaning g) P
  gives_meaning h = gives_field m (λ a. back (g a)) (gives_any m) λ a _. go (g a) (h a)
    where
      go : (o : Option C) → ((c : C) → o ≡ some c → P c) → Gives (back o) P
      go none k = record { sure = λ s v t e. absurd (none-ne-some (v, t) e) }
      go (some c) k = gives_value c (k c refl)

pub record SoundLine (l : NamedRow) : Type 0 where
  pub sound : (n : ℕ) → n < 4_294_967_296 → SoundRow (with_text n l.row)
  pub fits : fits_line l.row ≡ true

gives_line : Gives price_line SoundLine
gives_line =
    gives_field (field such is_name 1 40) _ (gives_such field (is_name 1 40)) λ article ea.
    gives_field (next_field such is_name 0 20) _ (gives_such next_field (is_name 0 20)) λ condition ec.
    gives_field (next_field meaning letter_in (sale ∷ purchase ∷ [])) _
    (gives_meaning next_field (letter_in (sale ∷ purchase ∷ [])) (letter_is (sale ∷ purchase ∷ []))) λ sort es.
    gives_field (next_field meaning letter_in (base ∷ surcharge ∷ discount ∷ [])) _
    (gives_meaning next_field (letter_in (base ∷ surcharge ∷ discount ∷ [])) (letter_is (base ∷ surcharge ∷ discount ∷ []))) λ level el.
    gives_field (next_field meaning letter_in (letter "1" ∷ letter "2" ∷ [])) _
    (gives_meaning next_field (letter_in (letter "1" ∷ letter "2" ∷ [])) (letter_is (letter "1" ∷ letter "2" ∷ []))) λ rule er.
    gives_field (next_field such all name_byte) _ (gives_any (next_field such all name_byte)) λ name _.
    gives_field (next_field meaning value_in) _ (gives_any (next_field meaning value_in)) λ hundredths _.
    gives_field (next_field meaning letter_in (letter "0" ∷ letter "1" ∷ [])) _
    (gives_any (next_field meaning letter_in (letter "0" ∷ letter "1" ∷ []))) λ fixed _.
    gives_field (must (in_bounds (value_of (fixed - letter "0") hundredths))) _
    (gives_tested (in_bounds (value_of (fixed - letter "0") hundredths)) tt {P = λ _. in_bounds (value_of (fixed - letter "0") hundredths) ≡ true}
    (λ e. e)) λ _ ev.
    gives_field (next_field such is_currency) _ (gives_such next_field is_currency) λ currency eu.
    gives_field (next_field meaning date_in) _ (gives_meaning next_field date_in date_is) λ from ef.
    gives_field (next_field meaning date_in) _ (gives_meaning next_field date_in date_is) λ to et.
    gives_field (next_field meaning quantity_in) _ (gives_meaning next_field quantity_in quantity_is) λ up_to eq.
    gives_field (next_field such is_empty) _ (gives_any (next_field such is_empty)) λ none _.
    gives_value _
    (record {
      sound = λ n h. record {
        article = ea;
        condition = ec;
        sort = es;
        level = el;
        rule = one_of_such (λ b. any (eqb (b - 48)) (1 ∷ 2 ∷ [])) rule (49 ∷ 50 ∷ []) refl er;
        text = h;
        value = ev;
        currency = eu;
        from = omega (arith, ef);
        to = omega (arith, et);
        up_to = omega (arith, eq);
        rounding = omega arith;
      };
      fits = both (leb from 99_999_999) (leb to 99_999_999) (le-leb from 99_999_999 ef) (le-leb to 99_999_999 et);
    })

-- ---- all lines

brought_sound : (s : List ℕ) (ls : List NamedRow) → brought s ≡ some ls → All SoundLine ls
unfolding brought
brought_sound s ls e = go (is_blank s || is_remark s) e
  where
    one : (o : Option NamedRow) → whole price_line s ≡ o → alone o ≡ some ls → All SoundLine ls
    one none f e = absurd (none-ne-some ls e)
    one (some l) f e = subst (All SoundLine) (some-injective (l ∷ []) ls e) (whole_gives gives_line s l f, tt)

    go : (b : Bool) → brought_by b s ≡ some ls → All SoundLine ls
    go true e = subst (All SoundLine) (some-injective [] ls e) tt
    go false e = one (whole price_line s) refl e

pub all_both : {A : Type 0} (P : A → Type 0) (xs ys : List A) → All P xs → All P ys → All P (xs ++ ys)
all_both P [] ys h k = k
all_both P (x ∷ xs) ys h k = (h.0, all_both P xs ys h.1 k)

pub lines_sound : (n : ℕ) (ss : List (List ℕ)) (ls : List NamedRow) → lines_from n ss ≡ Done ls → All SoundLine ls
unfolding lines_from
lines_sound n [] ls e = subst (All SoundLine) (done_is [] ls e) tt
lines_sound n (s ∷ ss) ls e =
    let x = then_done (or_refuse_at 13 n (brought s)) (λ here. and_then (lines_from (suc n) ss) (λ behind. Done (here ++ behind))) e in
    let y = then_done (lines_from (suc n) ss) (λ behind. Done (x.0 ++ behind)) x.2 in
    subst (All SoundLine) (done_is (x.0 ++ y.0) ls y.2)
    (all_both SoundLine x.0 y.0 (brought_sound s x.0 (or_done 13 n (brought s) x.1)) (lines_sound (suc n) ss y.0 y.1))
