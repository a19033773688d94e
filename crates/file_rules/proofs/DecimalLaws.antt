-- The price file: numbers, dates and amounts are read back as they were written.
use Prim.Native.Nat.{ℕ, zero, suc, ◌+◌, ◌*◌, ◌-◌, ◌/◌, ◌%◌, ◌^◌, ◌≤◌, ◌<◌}
use mathlib.Core.Path.{◌≡◌, refl, sym, ◌∙◌, ap, subst}
use mathlib.Core.Bool.{Bool, true, false, ◌&&◌, ◌||◌, not}
use mathlib.Core.List.{List, [], ◌∷◌, ◌++◌}
use mathlib.Core.Option.{Option, some, none}
use native.Mathlib.Omega.{arith}
use native.Mathlib.Nat.{pow-succ'}
use lib.Dec.{eqb, leb, ltb}
use lib.IntN.{ℤ, pos, negsuc, nat_abs}
use lib.ListN.{length, drop, length-append}
use borrow.Author.Tests.{eq-eqb, ne_eqb, le-leb, ltb-true}
use Rattle.rules.specs.Lists.{all, any, between, if_some}
use Rattle.rules.specs.Letters.{letter}
use Rattle.rules.specs.Bytes.{name_byte}
use Rattle.rules.specs.Program.{digits, decimal}
use Rattle.file_rules.specs.Fields.{quote, semicolon, starts_with, needs_quotes}
use Rattle.file_rules.specs.Decimals.{is_digit, tens_from, tens, only, minus, quantity_in, date_in, cents_of, cents_in, value_by, value_in, digits_of, date_text, text_text, cents_text, value_text}
use Rattle.rules.proofs.TestLaws.{and_left, and_right, both, not_so, between_low, between_high, is_between}
use Rattle.rules.proofs.ListLaws.{all_append}
use Rattle.file_rules.proofs.FieldLaws.{cut_read}

pub only_some : {A : Type 0} (b : Bool) (a : A) → b ≡ true → only b a ≡ some a
only_some b a e = ap (λ t. only t a) e

-- ---- bytes that never need quotes

abbrev pub plain_byte : ℕ → Bool
plain_byte b = not (eqb b quote) && not (eqb semicolon b)

pub plain_is : (b : ℕ) → (b ≡ 34 → ⊥) → (59 ≡ b → ⊥) → plain_byte b ≡ true
plain_is b h k = λ i. not (ne_eqb b 34 h i) && not (ne_eqb 59 b k i)

pub plain_digit : (b : ℕ) → is_digit b ≡ true → plain_byte b ≡ true
plain_digit b e =
    let l : 48 ≤ b = between_low 48 57 b e in
    let h : b ≤ 57 = between_high 48 57 b e in
    plain_is b (omega arith) (omega arith)

pub plain_capital : (b : ℕ) → between 65 90 b ≡ true → plain_byte b ≡ true
plain_capital b e =
    let l : 65 ≤ b = between_low 65 90 b e in
    plain_is b (omega arith) (omega arith)

module _ (p q : ℕ → Bool) (h : (b : ℕ) → p b ≡ true → q b ≡ true) where
  pub all_weaken : (s : List ℕ) → all p s ≡ true → all q s ≡ true
  all_weaken [] e = refl
  all_weaken (b ∷ s) e = both (q b) (all q s) (h b (and_left (p b) (all p s) e)) (all_weaken s (and_right (p b) (all p s) e))

module _ (p : ℕ → Bool) (c : ℕ) (h : (b : ℕ) → p b ≡ true → eqb c b ≡ false) where
  pub all_not : (s : List ℕ) → all p s ≡ true → any (eqb c) s ≡ false
  all_not [] e = refl
  all_not (b ∷ s) e = λ i. h b (and_left (p b) (all p s) e) i || all_not s (and_right (p b) (all p s) e) i

pub plain_needs : (s : List ℕ) → all plain_byte s ≡ true → needs_quotes s ≡ false
plain_needs s e =
    λ i. starts s e i || all_not plain_byte semicolon (λ b h. not_so (eqb semicolon b) (and_right (not (eqb b quote)) (not (eqb semicolon b)) h)) s e i
  where
    starts : (s : List ℕ) → all plain_byte s ≡ true → starts_with quote s ≡ false
    starts [] e = refl
    starts (b ∷ s) e = not_so (eqb b quote) (and_left (not (eqb b quote)) (not (eqb semicolon b)) (and_left (plain_byte b) (all plain_byte s) e))

-- ---- digits

pub tens_append : (n : ℕ) (xs ys : List ℕ) → tens_from n (xs ++ ys) ≡ tens_from (tens_from n xs) ys
tens_append n [] ys = refl
tens_append n (x ∷ xs) ys = tens_append (n * 10 + (x - 48)) xs ys

digit_of : (n : ℕ) → n < 10 → is_digit (48 + n) ≡ true
digit_of n h = is_between 48 57 (48 + n) (omega arith) (omega arith)

-- one digit more behind those of a tenth
one_more : (n : ℕ) (ds : List ℕ) → tens ds ≡ n / 10 → tens (ds ++ ((48 + n % 10) ∷ [])) ≡ n
one_more n ds e = tens_append 0 ds ((48 + n % 10) ∷ []) ∙ (ap (λ (k : ℕ). k * 10 + (48 + n % 10 - 48)) e ∙ omega arith)

all_more : (n : ℕ) (ds : List ℕ) → all is_digit ds ≡ true → all is_digit (ds ++ ((48 + n % 10) ∷ [])) ≡ true
all_more n ds e =
    all_append is_digit ds ((48 + n % 10) ∷ [])
    ∙ both (all is_digit ds) (is_digit (48 + n % 10) && true) e (both (is_digit (48 + n % 10)) true (digit_of (n % 10) (omega arith)) refl)

tenth_below : (k n : ℕ) → n < 10 ^ suc k → n / 10 < 10 ^ k
tenth_below k n h = let e : 10 ^ suc k ≡ 10 * 10 ^ k = pow-succ' 10 k in omega arith

module _ (k : ℕ) where
  -- the two ways in which a number is printed
  digits_one : (n : ℕ) → ltb n 10 ≡ true → digits (suc k) n ≡ (48 + n) ∷ []
  unfolding digits
  digits_one n e = rw (digits, e)

  digits_more : (n : ℕ) → ltb n 10 ≡ false → digits (suc k) n ≡ digits k (n / 10) ++ ((48 + n % 10) ∷ [])
  unfolding digits
  digits_more n e = rw (digits, e)

pub tens_digits : (k n : ℕ) → n < 10 ^ k → tens (digits k n) ≡ n
unfolding digits
tens_digits zero n h = omega arith
tens_digits (suc k) n h = go (ltb n 10) refl (tens_digits k (n / 10) (tenth_below k n h))
  where
    go : (b : Bool) → ltb n 10 ≡ b → tens (digits k (n / 10)) ≡ n / 10 → tens (digits (suc k) n) ≡ n
    go true e i = ap tens (digits_one k n e) ∙ omega arith
    go false e i = ap tens (digits_more k n e) ∙ one_more n (digits k (n / 10)) i

pub all_digits : (k n : ℕ) → all is_digit (digits k n) ≡ true
unfolding digits
all_digits zero n = refl
all_digits (suc k) n = go (ltb n 10) refl (all_digits k (n / 10))
  where
    go : (b : Bool) → ltb n 10 ≡ b → all is_digit (digits k (n / 10)) ≡ true → all is_digit (digits (suc k) n) ≡ true
    go true e i = ap (all is_digit) (digits_one k n e) ∙ both (is_digit (48 + n)) true (digit_of n (ltb-true n 10 e)) refl
    go false e i = ap (all is_digit) (digits_more k n e) ∙ all_more n (digits k (n / 10)) i

some_digits : (k n : ℕ) → 1 ≤ length (digits (suc k) n)
some_digits k n = go (ltb n 10) refl
  where
    go : (b : Bool) → ltb n 10 ≡ b → 1 ≤ length (digits (suc k) n)
    go true e = subst (λ (s : List ℕ). 1 ≤ length s) (sym (digits_one k n e)) (omega arith)
    go false e = subst (λ (s : List ℕ). 1 ≤ length s) (sym (digits_more k n e)) (rw length-append (omega arith))

pub tens_digits_of : (k n : ℕ) → n < 10 ^ k → tens (digits_of k n) ≡ n
unfolding digits_of
tens_digits_of zero n h = omega arith
tens_digits_of (suc k) n h = one_more n (digits_of k (n / 10)) (tens_digits_of k (n / 10) (tenth_below k n h))

pub all_digits_of : (k n : ℕ) → all is_digit (digits_of k n) ≡ true
unfolding digits_of
all_digits_of zero n = refl
all_digits_of (suc k) n = all_more n (digits_of k (n / 10)) (all_digits_of k (n / 10))

length_digits_of : (k n : ℕ) → length (digits_of k n) ≡ k
unfolding digits_of
length_digits_of zero n = refl
length_digits_of (suc k) n = rw length-append (omega (arith, length_digits_of k (n / 10)))

-- digits behind a number never make it less: a reader may stop above its bound
pub tens_grows : (n : ℕ) (ds : List ℕ) → n ≤ tens_from n ds
tens_grows n [] = omega arith
tens_grows n (d ∷ ds) = let h : n * 10 + (d - 48) ≤ tens_from (n * 10 + (d - 48)) ds = tens_grows (n * 10 + (d - 48)) ds in omega arith

-- ---- a quantity

pub quantity_read : (n : ℕ) → n ≤ 4_294_967_295 → quantity_in (decimal n) ≡ some n
unfolding quantity_in
quantity_read n h =
    let e : tens (decimal n) ≡ n = tens_digits 20 n (omega arith) in
    only_some _ (tens (decimal n))
    (both (all is_digit (decimal n)) (leb 1 (length (decimal n)) && leb (tens (decimal n)) 4_294_967_295) (all_digits 20 n)
    (both (leb 1 (length (decimal n))) (leb (tens (decimal n)) 4_294_967_295) (le-leb 1 (length (decimal n)) (some_digits 19 n))
    (le-leb (tens (decimal n)) 4_294_967_295 (omega arith))))
    ∙ ap some e

pub quantity_plain : (n : ℕ) → all plain_byte (decimal n) ≡ true
quantity_plain n = all_weaken is_digit plain_byte plain_digit (decimal n) (all_digits 20 n)

-- ---- a date

date_digits : (s : List ℕ) → all is_digit s ≡ true → length s ≡ 8 → date_in s ≡ some (tens s)
unfolding date_in
date_digits [] e h = absurd (omega arith)
date_digits (d ∷ ds) e h = only_some _ (tens (d ∷ ds)) (both (all is_digit (d ∷ ds)) (eqb (length (d ∷ ds)) 8) e (eq-eqb (length (d ∷ ds)) 8 h))

pub date_read : (n : ℕ) → n ≤ 99_999_999 → date_in (date_text n) ≡ some n
unfolding date_text date_in
date_read zero h = refl
date_read (suc n) h =
    date_digits (digits_of 8 (suc n)) (all_digits_of 8 (suc n)) (length_digits_of 8 (suc n)) ∙ ap some (tens_digits_of 8 (suc n) (omega arith))

pub date_plain : (n : ℕ) → all plain_byte (date_text n) ≡ true
unfolding date_text
date_plain zero = refl
date_plain (suc n) = all_weaken is_digit plain_byte plain_digit (digits_of 8 (suc n)) (all_digits_of 8 (suc n))

-- ---- a text number

pub text_plain : (n : ℕ) → all plain_byte (text_text n) ≡ true
unfolding text_text
text_plain zero = refl
text_plain (suc n) = quantity_plain (suc n)

pub name_digit : (b : ℕ) → is_digit b ≡ true → name_byte b ≡ true
name_digit b e =
    let l : 48 ≤ b = between_low 48 57 b e in
    let h : b ≤ 57 = between_high 48 57 b e in
    ap (λ t. t || between 160 255 b) (is_between 32 126 b (omega arith) (omega arith))

pub text_name : (n : ℕ) → all name_byte (text_text n) ≡ true
unfolding text_text
text_name zero = refl
text_name (suc n) = all_weaken is_digit name_byte name_digit (decimal (suc n)) (all_digits 20 (suc n))

-- ---- an amount

two_digits : (n : ℕ) → digits_of 2 n ≡ (48 + n / 10 % 10) ∷ (48 + n % 10) ∷ []
unfolding digits_of
two_digits n = refl

cents_read : (n : ℕ) → n < 10 ^ 20 → cents_in (cents_text n) ≡ some n
cents_read n h =
    let w : List ℕ = decimal (n / 100) in
    let d : List ℕ = digits_of 2 (n % 100) in
    let no_point : any (eqb (letter ".")) w ≡ false = all_not is_digit 46 (λ b e. ne_eqb 46 b (point b e)) w (all_digits 20 (n / 100)) in
    ap (λ (p : List ℕ × List ℕ). cents_of p.0 (drop 1 p.1)) (cut_read 46 w (46 ∷ d) no_point refl)
    ∙ (ap (cents_of w) (two_digits (n % 100))
    ∙ (only_some _ (tens (w ++ ((48 + n % 100 / 10 % 10) ∷ (48 + n % 100 % 10) ∷ [])))
    (both (all is_digit w) _ (all_digits 20 (n / 100))
    (both (all is_digit ((48 + n % 100 / 10 % 10) ∷ (48 + n % 100 % 10) ∷ [])) _ (sym (ap (all is_digit) (two_digits (n % 100)))
    ∙ all_digits_of 2 (n % 100))
    (both (leb 1 (length (w ++ ((48 + n % 100 / 10 % 10) ∷ (48 + n % 100 % 10) ∷ [])))) true
    (le-leb 1 (length (w ++ ((48 + n % 100 / 10 % 10) ∷ (48 + n % 100 % 10) ∷ []))) (rw length-append (omega arith))) refl)))
    ∙ ap some
    (tens_append 0 w ((48 + n % 100 / 10 % 10) ∷ (48 + n % 100 % 10) ∷ [])
    ∙ (ap (λ (k : ℕ). (k * 10 + (48 + n % 100 / 10 % 10 - 48)) * 10 + (48 + n % 100 % 10 - 48)) (tens_digits 20 (n / 100) (omega arith))
    ∙ omega arith))))
  where
    point : (b : ℕ) → is_digit b ≡ true → 46 ≡ b → ⊥
    point b e f = let l : 48 ≤ b = between_low 48 57 b e in omega arith

starts_digit : (c : ℕ) (s t : List ℕ) → c < 48 → all is_digit s ≡ true → 1 ≤ length s → starts_with c (s ++ t) ≡ false
starts_digit c [] t l e h = absurd (omega arith)
starts_digit c (b ∷ s) t l e h =
    let k : 48 ≤ b = between_low 48 57 b (and_left (is_digit b) (all is_digit s) e) in
    ne_eqb b c (omega arith)

pub value_read : (z : ℤ) → nat_abs z < 10 ^ 20 → value_in (value_text z) ≡ some z
unfolding value_in value_text
value_read (pos n) h =
    ap (λ b. value_by b (cents_text n))
    (starts_digit 45 (decimal (n / 100)) (46 ∷ digits_of 2 (n % 100)) (omega arith) (all_digits 20 (n / 100)) (some_digits 19 (n / 100)))
    ∙ ap (λ (o : Option ℕ). if_some o none (λ k. some (pos k))) (cents_read n h)
value_read (negsuc n) h = ap (λ (o : Option ℕ). if_some o none (λ k. some (minus k))) (cents_read (suc n) h)

cents_plain : (n : ℕ) → all plain_byte (cents_text n) ≡ true
cents_plain n =
    all_append plain_byte (decimal (n / 100)) (46 ∷ digits_of 2 (n % 100))
    ∙ both (all plain_byte (decimal (n / 100))) (all plain_byte (digits_of 2 (n % 100))) (quantity_plain (n / 100))
    (all_weaken is_digit plain_byte plain_digit (digits_of 2 (n % 100)) (all_digits_of 2 (n % 100)))

pub value_plain : (z : ℤ) → all plain_byte (value_text z) ≡ true
unfolding value_text
value_plain (pos n) = cents_plain n
value_plain (negsuc n) = cents_plain (suc n)

-- ---- a text number that is not zero is not blank, and no two numbers have one text

pub decimal_some : (n : ℕ) → 1 ≤ length (decimal n)
decimal_some n = some_digits 19 n

pub decimal_one : (m n : ℕ) → m < 10 ^ 20 → n < 10 ^ 20 → decimal m ≡ decimal n → m ≡ n
decimal_one m n h k e = sym (tens_digits 20 m h) ∙ (ap tens e ∙ tens_digits 20 n k)
