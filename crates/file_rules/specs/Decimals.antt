-- The price file (document 003, 1): numbers, amounts and dates as text, read and written.
use Rattle.std.specs.Prelude.{ℕ, zero, suc, ◌+◌, ◌*◌, ◌-◌, ◌/◌, ◌%◌, Bool, true, false, ◌&&◌, List, [], ◌∷◌, ◌++◌, eqb, leb, length, take, drop, ℤ, pos, negsuc}
use Rattle.std.proofs.Math.Option.{Option, some, none}
use Rattle.rules.specs.Lists.{between, all, if_some}
use Rattle.rules.specs.Letters.{text, letter}
use Rattle.rules.specs.Program.{decimal}
use Rattle.file_rules.specs.Fields.{starts_with, cut}

abbrev pub is_digit : ℕ → Bool
is_digit b = between (letter "0") (letter "9") b

-- the number whose digits are those of n, and then these
abbrev pub tens_from : ℕ → List ℕ → ℕ
tens_from n [] = n
tens_from n (d ∷ ds) = tens_from (n * 10 + (d - letter "0")) ds

abbrev pub tens : List ℕ → ℕ
tens ds = tens_from 0 ds

abbrev pub only : {A : Type 0} → Bool → A → Option A
only true a = some a
only false a = none

-- ---- read

-- a quantity: digits alone, one at least, and a number of 4 bytes
unfoldable pub quantity_in : List ℕ → Option ℕ
quantity_in s = only (all is_digit s && (leb 1 (length s) && leb (tens s) 4_294_967_295)) (tens s)

-- a date is blank or eight digits, of any value
unfoldable pub date_in : List ℕ → Option ℕ
date_in [] = some 0
date_in (d ∷ ds) = only (all is_digit (d ∷ ds) && eqb (length (d ∷ ds)) 8) (tens (d ∷ ds))

-- digits before and behind at most one point, one digit at least; behind the second decimal only 0 may stand
abbrev pub cents_of : List ℕ → List ℕ → Option ℕ
cents_of whole decimals =
    only (all is_digit whole && (all is_digit decimals && (leb 1 (length (whole ++ decimals)) && all (eqb (letter "0")) (drop 2 decimals))))
    (tens (whole ++ take 2 (decimals ++ text "00")))

abbrev pub cents_in : List ℕ → Option ℕ
cents_in s = let p = cut (letter ".") s in cents_of p.0 (drop 1 p.1)

abbrev pub minus : ℕ → ℤ
minus zero = pos 0
minus (suc n) = negsuc n

abbrev pub value_by : Bool → List ℕ → Option ℤ
value_by true s = if_some (cents_in (drop 1 s)) none (λ n. some (minus n))
value_by false s = if_some (cents_in s) none (λ n. some (pos n))

-- in hundredths, with a minus in front of those below zero
unfoldable pub value_in : List ℕ → Option ℤ
value_in s = value_by (starts_with (letter "-") s) s

-- ---- written

-- the last k digits of n
unfoldable pub digits_of : ℕ → ℕ → List ℕ
digits_of zero n = []
digits_of (suc k) n = digits_of k (n / 10) ++ ((letter "0" + n % 10) ∷ [])

abbrev pub blank_zero : (ℕ → List ℕ) → ℕ → List ℕ
blank_zero f zero = []
blank_zero f (suc n) = f (suc n)

unfoldable pub date_text : ℕ → List ℕ
date_text n = blank_zero (digits_of 8) n

unfoldable pub text_text : ℕ → List ℕ
text_text n = blank_zero decimal n

abbrev pub cents_text : ℕ → List ℕ
cents_text n = decimal (n / 100) ++ (letter "." ∷ digits_of 2 (n % 100))

unfoldable pub value_text : ℤ → List ℕ
value_text (pos n) = cents_text n
value_text (negsuc n) = letter "-" ∷ cents_text (suc n)
