-- The bytes of price rows are read as these rows: one record, many of them, and a book of nothing else.
use Prim.Native.Nat.{ℕ, zero, suc, ◌+◌, ◌*◌, ◌-◌, ◌/◌, ◌%◌, ◌^◌, ◌≤◌, ◌<◌}
use mathlib.Core.Path.{◌≡◌, refl, sym, ◌∙◌, ap, ap₂}
use mathlib.Core.Bool.{Bool, true, cond}
use mathlib.Core.List.{List, [], ◌∷◌, ◌++◌, map, append_assoc}
use mathlib.Core.Option.{Option, some}
use native.Mathlib.Omega.{arith}
use native.Mathlib.Nat.{zero-add, zero-mul, one-le-pow, pow-succ', mod-eq_of_lt, add-mul, mul_assoc, add_assoc}
use lib.Arith.{mod-mul}
use lib.Dec.{eqb, leb}
use lib.IntN.{ℤ, pos, negsuc}
use lib.ListN.{length, length-append}
use borrow.Author.Tests.{eqb-true, eq-eqb, le-leb, leb-true, ltb-true, lt-ltb, le-ltb}
use Rattle.rules.specs.Lists.{all, any, between}
use Rattle.rules.specs.Layout.{Layout, and_then, ◌>>=◌, give, give_if, ◌such◌, front, bytes, byte, back, whole, wholly, framed, to_end}
use Rattle.rules.specs.Bytes.{big_from, big, number, signed, signed_of, bytes_of, twos, signed_bytes_of, either_side, one_of, name, name_byte, capitals}
use Rattle.rules.specs.Book.{Record, PriceRecord, Row, sale, purchase, base, surcharge, discount}
use Rattle.rules.specs.BookLayout.{value_of, in_bounds, price_body, kinded, one_record, most_bytes, book_layout, records}
use Rattle.rules.specs.RowBytes.{name_bytes, flag_of, hundredths_of, row_body, row_bytes, rows_bytes, book_with}
use Rattle.file_rules.specs.PriceLine.{is_name}
use Rattle.rules.specs.declared.Value.{Value}
use Rattle.rules.specs.declared.Value.TheVariants.{Fixed, Percent}
use Rattle.rules.proofs.TestLaws.{and_left, and_right, between_high}
use Rattle.rules.proofs.ListLaws.{All}
use Rattle.file_rules.proofs.PriceLineLaws.{SoundRow, flag_value}

-- ---- numbers in bytes

pub length_bytes : (k n : ℕ) → length (bytes_of k n) ≡ k
length_bytes zero n = refl
length_bytes (suc k) n = ap suc (length_bytes k n)

big_bytes : (m k n : ℕ) → big_from m (bytes_of k n) ≡ m * 256 ^ k + n % 256 ^ k
big_bytes m zero n = omega arith
big_bytes m (suc k) n =
    let x : ℕ = 256 ^ k in
    let e : n % 256 ^ suc k ≡ (n / x % 256) * x + n % x =
    ap (λ (p : ℕ). n % p) (pow-succ' 256 k) ∙ mod-mul n (omega arith) (one-le-pow k 256 (omega arith)) in
    let d : (m * 256 + n / x % 256) * x + n % x ≡ m * (256 * x) + ((n / x % 256) * x + n % x) = simp (add-mul, mul_assoc, add_assoc) in
    big_bytes (m * 256 + n / x % 256) k n ∙ (d ∙ ap₂ (λ (p r : ℕ). m * p + r) (sym (pow-succ' 256 k)) (sym e))

pub number_back : (k n : ℕ) → n < 256 ^ k → big (bytes_of k n) ≡ n
number_back k n h = big_bytes 0 k n ∙ simp (zero-mul, zero-add) (mod-eq_of_lt h)

pub twos_back : (z : ℤ) (n : ℕ) → n < 2 ^ 31 → either_side n z ≡ true → (twos 4 z < 256 ^ 4) × (signed_of 4 (twos 4 z) ≡ z)
twos_back (pos m) n l e =
    let h : m ≤ n = leb-true m n e in (omega arith, ap (λ b. cond b (pos m) (negsuc (4294967295 - m))) (lt-ltb m 2147483648 (omega arith)))
twos_back (negsuc m) n l e =
    let h : m < n = ltb-true m n e in (
      omega arith,
      ap (λ b. cond b (pos (4294967295 - m)) (negsuc (4294967295 - (4294967295 - m)))) (le-ltb (4294967295 - m) 2147483648 (omega arith))
          ∙ ap negsuc (omega arith),
    )

-- ---- the layout takes a value off the front

pub record Takes {A : Type 0} (m : Layout A) (s : List ℕ) (v : A) (t : List ℕ) : Type 0 where
  pub is : m s ≡ some (v, t)

module _ {A B : Type 0} (m : Layout A) (f : A → Layout B) where
  then_takes : {s t u : List ℕ} {v : A} {w : B} → Takes m s v t → Takes (f v) t w u → Takes (m >>= f) s w u
  then_takes p q = record { is = ap (λ (o : Option (A × List ℕ)). and_then o f) p.is ∙ q.is }

give_takes : {A : Type 0} {a b : A} {t : List ℕ} → a ≡ b → Takes (give a) t b t
give_takes {t} e = record { is = ap (λ x. some (x, t)) e }

if_takes : {A : Type 0} (b : Bool) (a : A) {t : List ℕ} → b ≡ true → Takes (give_if b a) t a t
if_takes b a {t} e = record { is = ap (λ c. give_if c a t) e }

such_takes : {A : Type 0} (m : Layout A) (p : A → Bool) {s t : List ℕ} {v : A} → Takes m s v t → p v ≡ true → Takes (m such p) s v t
such_takes m p {v} h e = then_takes m (λ a. give_if (p a) a) h (if_takes (p v) v e)

bytes_front : (bs t : List ℕ) → bytes (length bs) (bs ++ t) ≡ some (bs, t)
bytes_front [] t = refl
bytes_front (b ∷ bs) t = ap (front b) (bytes_front bs t)

bytes_take : (n : ℕ) (bs t : List ℕ) → length bs ≡ n → Takes (bytes n) (bs ++ t) bs t
bytes_take n bs t e = record { is = ap (λ (k : ℕ). bytes k (bs ++ t)) (sym e) ∙ bytes_front bs t }

number_take : (k n : ℕ) (t : List ℕ) → n < 256 ^ k → Takes (number k) (bytes_of k n ++ t) n t
number_take k n t h = then_takes (bytes k) (λ bs. give (big bs)) (bytes_take k (bytes_of k n) t (length_bytes k n)) (give_takes (number_back k n h))

signed_take : (z : ℤ) (n : ℕ) (t : List ℕ) → n < 2 ^ 31 → either_side n z ≡ true → Takes (signed 4) (signed_bytes_of 4 z ++ t) z t
signed_take z n t l e =
    let x = twos_back z n l e in then_takes (number 4) (λ k. give (signed_of 4 k)) (number_take 4 (twos 4 z) t x.0) (give_takes x.1)

one_of_take : (few : List ℕ) (b : ℕ) (t : List ℕ) → any (eqb b) few ≡ true → Takes (one_of few) (b ∷ t) b t
one_of_take few b t e = such_takes byte (λ b. any (eqb b) few) (record { is = refl }) e

name_take : (lo hi : ℕ) (s t : List ℕ) → is_name lo hi s ≡ true → Takes (name lo hi) (name_bytes s ++ t) s t
name_take lo hi s t e =
    then_takes (byte such between lo hi) (λ n. bytes n such all name_byte)
    (such_takes byte (between lo hi) (record { is = refl }) (and_left (between lo hi (length s)) (all name_byte s) e))
    (such_takes (bytes (length s)) (all name_byte) (bytes_take (length s) s t refl) (and_right (between lo hi (length s)) (all name_byte s) e))

value_take : (v : Value) (t : List ℕ) → in_bounds v ≡ true → Takes (signed 4) (signed_bytes_of 4 (hundredths_of v) ++ t) (hundredths_of v) t
value_take (Fixed c) t e = signed_take c.0 100_000_000 t (omega arith) e
value_take (Percent h) t e = signed_take h.0 100_000 t (omega arith) e

flag_of_lem : (v : Value) → any (eqb (flag_of v)) (0 ∷ 1 ∷ []) ≡ true
flag_of_lem (Fixed c) = refl
flag_of_lem (Percent h) = refl

-- ---- a record

module _ (r : Row) (s : SoundRow r) where
  body_takes : Takes price_body (row_body r) (PriceRecord r) []
  body_takes =
      then_takes _ _ (name_take 1 40 r.article _ s.article)
      (then_takes _ _ (name_take 0 20 r.condition _ s.condition)
      (then_takes _ _ (one_of_take (sale ∷ purchase ∷ []) r.sort _ s.sort)
      (then_takes _ _ (one_of_take (base ∷ surcharge ∷ discount ∷ []) r.level _ s.level)
      (then_takes _ _ (one_of_take (1 ∷ 2 ∷ []) r.rule _ s.rule)
      (then_takes _ _ (number_take 4 r.text _ s.text)
      (then_takes _ _ (one_of_take (0 ∷ 1 ∷ []) (flag_of r.value) _ (flag_of_lem r.value))
      (then_takes _ _ (value_take r.value _ s.value)
      (then_takes _ _ (if_takes (in_bounds (value_of (flag_of r.value) (hundredths_of r.value))) tt (ap in_bounds (flag_value r.value)
      ∙ s.value))
      (then_takes _ _ (such_takes (bytes 3) capitals
      (bytes_take 3 r.currency _ (eqb-true (length r.currency) 3
      (and_left (eqb (length r.currency) 3) (capitals r.currency) s.currency))) (and_right (eqb (length r.currency) 3) (capitals
      r.currency) s.currency))
      (then_takes _ _ (number_take 4 r.from _ s.from)
      (then_takes _ _ (number_take 4 r.to _ s.to)
      (then_takes _ _ (number_take 4 r.up_to _ s.up_to)
      (then_takes _ _ (number_take 2 r.rounding [] s.rounding)
      (give_takes λ i. PriceRecord (record {
        article = r.article;
        condition = r.condition;
        sort = r.sort;
        level = r.level;
        rule = r.rule;
        text = r.text;
        value = flag_value r.value i;
        currency = r.currency;
        from = r.from;
        to = r.to;
        up_to = r.up_to;
        rounding = r.rounding;
      })))))))))))))))

  body_length : length (row_body r) ≡ length r.article + length r.condition + 31
  body_length =
      let c : length r.currency ≡ 3 =
      eqb-true (length r.currency) 3 (and_left (eqb (length r.currency) 3) (capitals r.currency) s.currency) in
      simp length-append (omega arith)

  body_short : suc (length (row_body r)) < 65_536
  body_short =
      let a : length r.article ≤ 40 =
      between_high 1 40 (length r.article) (and_left (between 1 40 (length r.article)) (all name_byte r.article) s.article) in
      let c : length r.condition ≤ 20 =
      between_high 0 20 (length r.condition) (and_left (between 0 20 (length r.condition)) (all name_byte r.condition) s.condition) in
      omega (arith, body_length)

  -- a record is taken off the front
  pub record_takes : (t : List ℕ) → one_record (row_bytes r ++ t) ≡ some (PriceRecord r, t)
  unfolding row_bytes
  record_takes t =
      let n : ℕ = suc (length (row_body r)) in
      ap one_record (append_assoc (bytes_of 2 n) (2 ∷ row_body r) t)
      ∙ (then_takes (number 2) (λ n. framed n kinded) (number_take 2 n (2 ∷ (row_body r ++ t)) body_short)
      (then_takes (bytes n) (λ s. back (whole kinded s)) (bytes_take n (2 ∷ row_body r) t refl)
      (record { is = ap (λ (o : Option (Record × List ℕ)). back (wholly o) t) body_takes.is }))).is

-- ---- records one behind the other

pub at_least_one : (rs : List Row) → length rs ≤ length (rows_bytes rs)
unfolding rows_bytes row_bytes
at_least_one [] = omega arith
at_least_one (r ∷ rs) = let h : length rs ≤ length (rows_bytes rs) = at_least_one rs in rw length-append (omega arith)

record_some : (r : Row) (t : List ℕ) → 1 ≤ length (row_bytes r ++ t)
unfolding row_bytes
record_some r t = omega arith

first_takes : (n : ℕ) (s t : List ℕ) (a : Record) (as' : List Record) → 1 ≤ length s → one_record s ≡ some (a, t)
    → to_end n one_record t ≡ some (as', []) → to_end (suc n) one_record s ≡ some (a ∷ as', [])
first_takes n [] t a as' h e f = absurd (omega arith)
first_takes n (b ∷ s) t a as' h e f =
    ap (λ (o : Option (Record × List ℕ)). and_then o λ a t. and_then (to_end n one_record t) λ rest. give (a ∷ rest)) e
    ∙ ap (λ (o : Option (List Record × List ℕ)). and_then o λ rest. give (a ∷ rest)) f

rows_take : (n : ℕ) (rs : List Row) → length rs ≤ n → All SoundRow rs → to_end n one_record (rows_bytes rs) ≡ some (map PriceRecord rs, [])
unfolding rows_bytes
rows_take zero [] h hs = refl
rows_take zero (r ∷ rs) h hs = absurd (omega arith)
rows_take (suc n) [] h hs = refl
rows_take (suc n) (r ∷ rs) h hs =
    first_takes n (row_bytes r ++ rows_bytes rs) (rows_bytes rs) (PriceRecord r) (map PriceRecord rs) (record_some r (rows_bytes rs))
    (record_takes r hs.0 (rows_bytes rs)) (rows_take n rs (omega arith) hs.1)

-- ---- a book of them

book_length : (body : List ℕ) → length (book_with body) ≡ 5 + length body
unfolding book_with
book_length body = omega arith

module _ (rs : List Row) (hs : All SoundRow rs) where
  book_takes : (n : ℕ) → n ≡ 5 + length (rows_bytes rs) → n ≤ most_bytes → Takes (book_layout n) (book_with (rows_bytes rs)) (map PriceRecord rs) []
  unfolding book_with
  book_takes n e h =
      then_takes _ _ (if_takes (leb n most_bytes) tt (le-leb n most_bytes h))
      (then_takes _ _ (then_takes (number 4 such eqb n) (λ _. one_of (1 ∷ []))
      (such_takes (number 4) (eqb n) (number_take 4 (5 + length (rows_bytes rs)) (1 ∷ rows_bytes rs) (omega arith))
      (eq-eqb n (5 + length (rows_bytes rs)) e)) (one_of_take (1 ∷ []) 1 (rows_bytes rs) refl))
      (record { is = rows_take (length (rows_bytes rs)) rs (at_least_one rs) hs }))

  -- A book of the bytes of such rows and nothing else is accepted, and holds these rows, unless it is too long.
  pub book_of_rows : 5 + length (rows_bytes rs) ≤ most_bytes → records (book_with (rows_bytes rs)) ≡ some (map PriceRecord rs)
  unfolding records
  book_of_rows h =
      let e : length (book_with (rows_bytes rs)) ≡ 5 + length (rows_bytes rs) = book_length (rows_bytes rs) in
      ap wholly (book_takes (length (book_with (rows_bytes rs))) e (omega arith)).is
