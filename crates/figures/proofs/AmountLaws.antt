-- Amounts: whole ones, a point and decimals, of which all behind the second are 0.
use Prim.Native.Nat.{ℕ, zero, suc, ◌+◌, ◌*◌, ◌-◌, ◌≤◌, ◌<◌}
use mathlib.Core.Path.{◌≡◌, refl, sym, ◌∙◌, ap, ap₂}
use mathlib.Core.Bool.{Bool, true, false, ◌&&◌, cond}
use mathlib.Core.List.{List, [], ◌∷◌, ◌++◌}
use mathlib.Core.Option.{Option, some, none}
use native.Mathlib.Omega.{arith}
use mir.Val.{bool_byte}
use lib.Dec.{eqb, leb}
use lib.IntN.{pos}
use lib.ListN.{length, take, drop, get_or, drop_of_length-le, length-append, length-drop}
use lib.Seq.{drop-drop}
use borrow.Author.Tests.{le-leb, lt-leb, leb-false, eq-eqb, ne_eqb, eqb-true, eqb-false}
use Rattle.rules.specs.Lists.{all, if_some}
use Rattle.rules.specs.Bytes.{either_side}
use Rattle.file_rules.specs.Fields.{starts_with}
use Rattle.file_rules.specs.Decimals.{is_digit, tens_from, tens, cents_of, cents_in, minus, value_by, value_in}
use Rattle.rules.proofs.ListLaws.{all_append}
use Rattle.rules.proofs.TestLaws.{and_false}
use Rattle.layout.proofs.PartLaws.{part_length}
use Rattle.layout.specs.Reads.{only, when, part}
use Rattle.layout.specs.Ensures.{Says}
use Rattle.std.specs.List.{list_all}
use Rattle.std.specs.Prelude.{◌==◌}
use Rattle.std.specs.declared.option.Option.{Option as Returned}
use Rattle.fields.specs.Given.{Gives, GivesNone, Agrees}
use Rattle.fields.specs.Field.{CutAt}
use Rattle.figures.specs.Figures.{one_digit, up_to, tens_in, OneByte, zeros_behind, PointAt, most_cents, behind, signed_by, near, AmountIs}
use Rattle.fields.proofs.PartLaws.{rest_is}
use Rattle.fields.proofs.GivenLaws.{agrees_as}
use Rattle.figures.proofs.DigitLaws.{over_none, digit_step, step_on, step_none, digit_below, given_below}

-- ---- the parts of an amount

module _ {s : List ℕ} {k : ℕ} where
  pub decimal_there : k < length s → OneByte s k (get_or s k 0)
  decimal_there h = record { is = by s k h }
    where
      by : (s : List ℕ) (k : ℕ) → k < length s → get_or s k 0 ≡ get_or s k 48
      by [] k h = absurd (omega arith)
      by (b ∷ s) zero h = refl
      by (b ∷ s) (suc k) h = by s k (omega arith)

  pub decimal_none : length s ≤ k → OneByte s k 48
  decimal_none h = record { is = by s k h }
    where
      by : (s : List ℕ) (k : ℕ) → length s ≤ k → 48 ≡ get_or s k 48
      by [] k h = refl
      by (b ∷ s) zero h = absurd (omega arith)
      by (b ∷ s) (suc k) h = by s k (omega arith)

  pub point_there : k < length s → PointAt s k (k + 1)
  point_there h = record { is = drop-drop 1 k s; fits = omega arith }

  pub point_none : k ≤ length s → length s ≤ k → PointAt s k k
  point_none h g = record { is = ap (drop 1) (drop_of_length-le s {i = k} g) ∙ sym (drop_of_length-le s {i = k} g); fits = h }

all_zeros : (s : List ℕ) → list_all (λ b. b == 48) s ≡ all (eqb 48) s
all_zeros [] = refl
all_zeros (b ∷ s) = ap₂ ◌&&◌ (by (eqb 48 b) refl) (all_zeros s)
  where
    by : (x : Bool) → eqb 48 b ≡ x → eqb b 48 ≡ eqb 48 b
    by true e = eq-eqb b 48 (sym (eqb-true 48 b e)) ∙ sym e
    by false e = ne_eqb b 48 (λ f. eqb-false 48 b e (sym f)) ∙ sym e

pub zeros_are : (s : List ℕ) {r : Bool} → r ≡ list_all (λ b. b == 48) (drop 2 s) → Says (zeros_behind s) r
zeros_are s e = record { is = sym (e ∙ all_zeros (drop 2 s)) }

-- ---- an amount without its sign

-- the two decimals, and that those behind them are 0
two_decimals : (ds : List ℕ) → take 2 (ds ++ (48 ∷ 48 ∷ [])) ≡ get_or ds 0 48 ∷ get_or ds 1 48 ∷ []
two_decimals [] = refl
two_decimals (a ∷ []) = refl
two_decimals (a ∷ (b ∷ ds)) = refl

zero_digits : (ds : List ℕ) → (all is_digit ds && all (eqb 48) ds) ≡ all (eqb 48) ds
zero_digits [] = refl
zero_digits (b ∷ ds) = by (eqb 48 b) refl (zero_digits ds)
  where
    by : (x : Bool) → eqb 48 b ≡ x → (all is_digit ds && all (eqb 48) ds) ≡ all (eqb 48) ds
        → ((is_digit b && all is_digit ds) && (x && all (eqb 48) ds)) ≡ (x && all (eqb 48) ds)
    by false e i = and_false (is_digit b && all is_digit ds)
    by true e i = ap (λ (k : ℕ). (is_digit k && all is_digit ds) && all (eqb 48) ds) (sym (eqb-true 48 b e)) ∙ i

decimals_digits : (ds : List ℕ) → (all is_digit ds && zeros_behind ds) ≡ (all is_digit (get_or ds 0 48 ∷ get_or ds 1 48 ∷ []) && zeros_behind ds)
decimals_digits [] = refl
decimals_digits (a ∷ []) = refl
decimals_digits (a ∷ (b ∷ ds)) = by (is_digit a) (is_digit b)
  where
    by : (x y : Bool) → ((x && (y && all is_digit ds)) && all (eqb 48) ds) ≡ ((x && (y && true)) && all (eqb 48) ds)
    by true true = zero_digits ds
    by true false = refl
    by false y = refl

-- all digits in a row, where there is one at least and only 0 behind the second decimal
tests : (x y z w : Bool) → (x && (y && (z && w))) ≡ (z && ((y && w) && x))
tests true true z w = by z w
  where
    by : (z w : Bool) → (z && w) ≡ (z && (w && true))
    by true true = refl
    by true false = refl
    by false w = refl
tests true false z w = sym (and_false z)
tests false y z w = sym (ap (λ (b : Bool). z && b) (and_false (y && w)) ∙ and_false z)

in_a_row : (w ds : List ℕ)
    → cents_of w ds ≡ when (leb 1 (length (w ++ ds))) (when (zeros_behind ds) (tens_in 0 (w ++ (get_or ds 0 48 ∷ get_or ds 1 48 ∷ []))))
in_a_row w ds =
    ap (λ (u : List ℕ). only (all is_digit w && (all is_digit ds && (leb 1 (length (w ++ ds)) && zeros_behind ds))) (tens (w ++ u))) (two_decimals ds)
    ∙ (ap (λ (b : Bool). only b (tens (w ++ two))) (tests (all is_digit w) (all is_digit ds) (leb 1 (length (w ++ ds))) (zeros_behind ds)
    ∙ ap (λ (b : Bool). leb 1 (length (w ++ ds)) && (b && all is_digit w)) (decimals_digits ds))
    ∙ (split (leb 1 (length (w ++ ds))) (all is_digit two) (zeros_behind ds) (all is_digit w) (tens (w ++ two))
    ∙ ap (λ (b : Bool). when (leb 1 (length (w ++ ds))) (when (zeros_behind ds) (only b (tens (w ++ two))))) (sym (all_append is_digit w two))))
  where
    two : List ℕ
    two = get_or ds 0 48 ∷ get_or ds 1 48 ∷ []

    split : (z d b x : Bool) (t : ℕ) → only (z && ((d && b) && x)) t ≡ when z (when b (only (x && d) t))
    split true true true true t = refl
    split true true true false t = refl
    split true true false x t = refl
    split true false true true t = refl
    split true false true false t = refl
    split true false false x t = refl
    split false d b x t = refl

tens_row : (most : ℕ) (w : List ℕ) (a b : ℕ)
    → up_to most (tens_in 0 (w ++ (a ∷ b ∷ []))) ≡ if_some (up_to most (tens_in 0 w)) none (λ (m : ℕ). up_to most (tens_in m (a ∷ b ∷ [])))
tens_row most w a b = from 0 w ∙ go (all is_digit w) (tens w)
  where
    from : (k : ℕ) (w : List ℕ)
        → up_to most (tens_in k (w ++ (a ∷ b ∷ []))) ≡ if_some (only (all is_digit w) (tens_from k w)) none (λ (m : ℕ). up_to most (tens_in m (a ∷ b ∷ [])))
    from k [] = refl
    from k (c ∷ w) = by (is_digit c) (from (k * 10 + (c - 48)) w)
      where
        by : (x : Bool)
            → up_to most (tens_in (k * 10 + (c - 48)) (w ++ (a ∷ b ∷ [])))
            ≡ if_some (only (all is_digit w) (tens_from (k * 10 + (c - 48)) w)) none (λ (m : ℕ). up_to most (tens_in m (a ∷ b ∷ [])))
            → up_to most (only (x && all is_digit (w ++ (a ∷ b ∷ []))) (tens_from (k * 10 + (c - 48)) (w ++ (a ∷ b ∷ []))))
            ≡ if_some (only (x && all is_digit w) (tens_from (k * 10 + (c - 48)) w)) none (λ (m : ℕ). up_to most (tens_in m (a ∷ b ∷ [])))
        by true i = i
        by false i = refl

    -- above the greatest the two digits do not bring it back
    go : (x : Bool) (t : ℕ)
        → if_some (only x t) none (λ (m : ℕ). up_to most (tens_in m (a ∷ b ∷ [])))
        ≡ if_some (up_to most (only x t)) none (λ (m : ℕ). up_to most (tens_in m (a ∷ b ∷ [])))
    go true t = by (leb t most) refl
      where
        by : (y : Bool) → leb t most ≡ y
            → up_to most (tens_in t (a ∷ b ∷ [])) ≡ if_some (only y t) none (λ (m : ℕ). up_to most (tens_in m (a ∷ b ∷ [])))
        by true e = refl
        by false e = over_none most t (a ∷ b ∷ []) (leb-false t most e)
    go false t = refl

module _ (s : List ℕ) (p d : ℕ) (hp : p ≤ length s) (hd : d ≤ length s) where
  abbrev two : List ℕ
  two = get_or (behind s d) 0 48 ∷ get_or (behind s d) 1 48 ∷ []

  abbrev cents : Option ℕ
  cents = up_to most_cents (cents_of (part s 0 p) (behind s d))

  length_rest : length (behind s d) ≡ length s - d
  length_rest = ap length (rest_is d s) ∙ length-drop d s

  sum_of : length (part s 0 p ++ behind s d) ≡ p + (length s - d)
  sum_of = length-append (part s 0 p) (behind s d) ∙ omega (arith, part_length s 0 p hp, length_rest)

  pub cents_none : p + length (behind s d) < 1 → GivesNone (up_to most_cents (cents_of (part s 0 p) (behind s d)))
  cents_none h =
      record {
        is = ap (up_to most_cents) (in_a_row (part s 0 p) (behind s d)
            ∙ ap (λ (b : Bool). when b (when (zeros_behind (behind s d)) (tens_in 0 (part s 0 p ++ two))))
            (lt-leb 1 (length (part s 0 p ++ behind s d)) (omega (arith, sum_of, length_rest))));
      }

  module _ (h : 1 ≤ p + length (behind s d)) {z : Bool} (q : Says (zeros_behind (behind s d)) z) where
    some_digit : cents_of (part s 0 p) (behind s d) ≡ when z (tens_in 0 (part s 0 p ++ two))
    some_digit = in_a_row (part s 0 p) (behind s d)
        ∙ (ap (λ (b : Bool). when b (when (zeros_behind (behind s d)) (tens_in 0 (part s 0 p ++ two))))
        (le-leb 1 (length (part s 0 p ++ behind s d)) (omega (arith, sum_of, length_rest)))
        ∙ ap (λ (b : Bool). when b (tens_in 0 (part s 0 p ++ two))) q.is)

    pub cents_more : z ≡ false → GivesNone (up_to most_cents (cents_of (part s 0 p) (behind s d)))
    cents_more e = record { is = ap (up_to most_cents) (some_digit ∙ ap (λ (b : Bool). when b (tens_in 0 (part s 0 p ++ two))) e) }

    module _ (e : z ≡ true) where
      in_row : cents ≡ if_some (up_to most_cents (tens_in 0 (part s 0 p))) none (λ (m : ℕ). up_to most_cents (tens_in m two))
      in_row =
          ap (up_to most_cents) (some_digit ∙ ap (λ (b : Bool). when b (tens_in 0 (part s 0 p ++ two))) e)
          ∙ tens_row most_cents (part s 0 p) (get_or (behind s d) 0 48) (get_or (behind s d) 1 48)

      pub cents_whole : GivesNone (up_to 100000000 (tens_in 0 (part s 0 p))) → GivesNone (up_to most_cents (cents_of (part s 0 p) (behind s d)))
      cents_whole k = record { is = in_row ∙ ap (λ (o : Option ℕ). if_some o none (λ (m : ℕ). up_to most_cents (tens_in m two))) k.is }

      module _ {w : ℕ} (k : Gives (up_to 100000000 (tens_in 0 (part s 0 p))) w) {a : ℕ} (x : OneByte (behind s d) 0 a) where
        in_digits : cents ≡ up_to most_cents (tens_in w (a ∷ get_or (behind s d) 1 48 ∷ []))
        in_digits =
            in_row ∙ (ap (λ (o : Option ℕ). if_some o none (λ (m : ℕ). up_to most_cents (tens_in m two))) k.is
            ∙ ap (λ (n : ℕ). up_to most_cents (tens_in w (n ∷ get_or (behind s d) 1 48 ∷ []))) (sym x.is))

        pub cents_tenths : GivesNone (one_digit 100000000 w a) → GivesNone (up_to most_cents (cents_of (part s 0 p) (behind s d)))
        cents_tenths y = record { is = in_digits ∙ step_none most_cents w a (get_or (behind s d) 1 48 ∷ []) y }

        pub cents_two : {t b : ℕ} → Gives (one_digit 100000000 w a) t → OneByte (behind s d) 1 b → (r : Returned ℕ)
            → Agrees (one_digit 100000000 t b) r → Agrees (up_to most_cents (cents_of (part s 0 p) (behind s d))) r
        cents_two {t} {b} y u r = agrees_as (in_digits ∙ (step_on most_cents w a (get_or (behind s d) 1 48 ∷ []) y
            ∙ (ap (λ (n : ℕ). up_to most_cents (tens_in t (n ∷ []))) (sym u.is) ∙ (digit_step most_cents t b [] ∙ last (one_digit most_cents t b) refl)))) r
          where
            last : (o : Option ℕ) → one_digit most_cents t b ≡ o → if_some o none (λ (m : ℕ). up_to most_cents (tens_in m [])) ≡ o
            last none e = refl
            last (some m) e = ap (λ (x : Bool). only x m) (le-leb m most_cents (digit_below most_cents t b (record { is = e })))

module _ {s : List ℕ} where
  pub cents_are : {p d : ℕ} → CutAt 46 s 0 p → PointAt s p d → (r : Returned ℕ)
      → Agrees (up_to most_cents (cents_of (part s 0 p) (behind s d))) r → Agrees (up_to most_cents (cents_in s)) r
  cents_are {p} {d} c q r =
      agrees_as (ap (up_to most_cents) (ap (λ (x : List ℕ × List ℕ). cents_of x.0 (drop 1 x.1)) c.is
      ∙ ap (cents_of (part s 0 p)) (q.is ∙ sym (rest_is d s)))) r

-- ---- its sign

either : (b : Bool) (n : ℕ) → either_side most_cents (signed_by b n) ≡ leb n most_cents
either true zero = refl
either true (suc n) = refl
either false n = refl

by_sign : (b : Bool) (o : Option ℕ)
    → near (if_some o none (λ (k : ℕ). some (signed_by b k))) ≡ if_some (up_to most_cents o) none (λ (n : ℕ). some (signed_by b n))
by_sign b none = refl
by_sign b (some m) = ap (λ (x : Bool). only x (signed_by b m)) (either b m) ∙ by (leb m most_cents)
  where
    by : (y : Bool) → only y (signed_by b m) ≡ if_some (only y m) none (λ (n : ℕ). some (signed_by b n))
    by true = refl
    by false = refl

module _ (s : List ℕ) {b : Bool} (q : Says (starts_with 45 s) b) where
  by_value : near (value_in s) ≡ if_some (up_to most_cents (cents_in (behind s (cond b 1 0)))) none (λ (n : ℕ). some (signed_by b n))
  unfolding value_in
  by_value = ap (λ (t : Bool). near (value_by t s)) q.is ∙ (by b ∙ by_sign b (cents_in (behind s (cond b 1 0))))
    where
      by : (b : Bool) → near (value_by b s) ≡ near (if_some (cents_in (behind s (cond b 1 0))) none (λ (n : ℕ). some (signed_by b n)))
      by true = ap (λ (t : List ℕ). near (if_some (cents_in t) none (λ (n : ℕ). some (minus n)))) (sym (rest_is 1 s))
      by false = ap (λ (t : List ℕ). near (if_some (cents_in t) none (λ (n : ℕ). some (pos n)))) (sym (rest_is 0 s))

  module _ {k : ℕ} (e : k ≡ bool_byte b) where
    from_k : near (value_in s) ≡ if_some (up_to most_cents (cents_in (behind s k))) none (λ (n : ℕ). some (signed_by b n))
    from_k = by_value ∙ ap (λ (j : ℕ). if_some (up_to most_cents (cents_in (behind s j))) none (λ (n : ℕ). some (signed_by b n))) (by b ∙ sym e)
      where
        by : (b : Bool) → cond b 1 0 ≡ bool_byte b
        by true = refl
        by false = refl

    pub amount_is : {n : ℕ} → Gives (up_to most_cents (cents_in (behind s k))) n → AmountIs s (record { hundredths = n; minus = b })
    amount_is p =
        record {
          is = from_k ∙ ap (λ (o : Option ℕ). if_some o none (λ (n : ℕ). some (signed_by b n))) p.is;
          below = given_below (cents_in (behind s k)) p.is;
        }

    pub amount_none : GivesNone (up_to most_cents (cents_in (behind s k))) → GivesNone (near (value_in s))
    amount_none p = record { is = from_k ∙ ap (λ (o : Option ℕ). if_some o none (λ (n : ℕ). some (signed_by b n))) p.is }
