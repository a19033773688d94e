-- A price record has one form in bytes: of an accepted book of bytes, each price record is the bytes of its row, and a book of price records
-- alone is the bytes of its rows behind a head.
use Prim.Native.Nat.{ℕ, zero, suc, ◌+◌, ◌*◌, ◌-◌, ◌/◌, ◌%◌, ◌^◌, ◌<◌}
use mathlib.Core.Path.{◌≡◌, refl, sym, ◌∙◌, ap, subst}
use mathlib.Core.Bool.{Bool, true, false, cond}
use mathlib.Core.List.{List, [], ◌∷◌, ◌++◌, map, append_assoc}
use mathlib.Core.Option.{Option, some, none, none-ne-some, some-injective}
use native.Mathlib.Omega.{arith}
use native.Mathlib.Nat.{pow-succ', mul_assoc, add-mul, add_assoc, one-le-pow, mul-add-div_right, div-eq_of_lt}
use lib.Dec.{eqb, leb, ltb}
use lib.ListN.{length}
use lib.IntN.{ℤ, pos, negsuc}
use borrow.Author.Tests.{eqb-true}
use Rattle.rules.specs.Lists.{all, any, between}
use Rattle.rules.specs.Layout.{Layout, ◌>>=◌, give, give_if, ◌such◌, must, front, bytes, byte, back, whole, wholly, framed, to_end, repeated}
use Rattle.rules.specs.Bytes.{big_from, big, number, signed, signed_of, bytes_of, twos, signed_bytes_of, one_of, name, name_byte, capitals, head}
use Rattle.rules.specs.Book.{Record, ArticleRecord, PriceRecord, RoundingRecord, PackagingRecord, SchemeRecord, Row, sale, purchase, base, surcharge, discount}
use Rattle.rules.specs.BookLayout.{value_of, in_bounds, price_body, body, kinded, one_record, most_bytes, book_layout, records}
use Rattle.rules.specs.RowBytes.{name_bytes, flag_of, hundredths_of, row_body, row_bytes, rows_bytes, book_with}
use Rattle.rules.proofs.TestLaws.{or_false}
use Rattle.rules.proofs.GivesLaws.{and_then_lem}
use Rattle.rules.proofs.TakesLaws.{back_is}
use Rattle.file_rules.proofs.PriceLineLaws.{two_cases}
use Rattle.file_rules.proofs.BookSoundLaws.{AreBytes, sure_bytes, big_below, other₁, other₃, other₄, other₅}

-- ---- numbers

digit : (n b p q : ℕ) → (n * 256 + b) * p + q ≡ n * (256 * p) + (b * p + q)
digit n b p q = simp (add-mul, mul_assoc, add_assoc)

big_from_lem : (n : ℕ) (bs : List ℕ) → big_from n bs ≡ n * 256 ^ length bs + big bs
big_from_lem n [] = omega arith
big_from_lem n (b ∷ bs) =
    let z : 0 * 256 + b ≡ b = omega arith in
    let f : big (b ∷ bs) ≡ b * 256 ^ length bs + big bs = big_from_lem (0 * 256 + b) bs ∙ ap (λ (k : ℕ). k * 256 ^ length bs + big bs) z in
    big_from_lem (n * 256 + b) bs
    ∙ (digit n b (256 ^ length bs) (big bs)
    ∙ sym (ap (λ (k : ℕ). n * 256 ^ suc (length bs) + k) f ∙ ap (λ (k : ℕ). n * k + (b * 256 ^ length bs + big bs)) (pow-succ' 256 (length bs))))

-- the bytes of a number of bytes are these bytes
bytes_back : (m : ℕ) (bs : List ℕ) → AreBytes bs → bytes_of (length bs) (big_from m bs) ≡ bs
bytes_back m [] h = refl
bytes_back m (b ∷ bs) h =
    let x : ℕ = 256 ^ length bs in
    let l : big bs < x = let i : big bs < 1 * x = big_below 0 bs h.1 in omega arith in
    let c : b < 256 = h.0 in
    let e : big_from (m * 256 + b) bs / x ≡ m * 256 + b =
    ap (λ (k : ℕ). k / x) (big_from_lem (m * 256 + b) bs)
    ∙ (mul-add-div_right (one-le-pow (length bs) 256 (omega arith)) (m * 256 + b) (big bs)
    ∙ (ap (λ (k : ℕ). m * 256 + b + k) (div-eq_of_lt l) ∙ omega arith)) in
    let d : (m * 256 + b) % 256 ≡ b = omega arith in
    λ i. (ap (λ (k : ℕ). k % 256) e ∙ d) i ∷ bytes_back (m * 256 + b) bs h.1 i

twos_again : (n : ℕ) → n < 4_294_967_296 → twos 4 (signed_of 4 n) ≡ n
twos_again n h = go (ltb n 2147483648) refl
  where
    go : (b : Bool) → ltb n 2147483648 ≡ b → twos 4 (signed_of 4 n) ≡ n
    go true e = ap (λ c. twos 4 (cond c (pos n) (negsuc (4294967295 - n)))) e
    go false e = ap (λ c. twos 4 (cond c (pos n) (negsuc (4294967295 - n)))) e ∙ omega arith

-- ---- a field is its bytes

record Exact {A : Type 0} (m : Layout A) (enc : A → List ℕ) (P : A → Type 0) : Type 0 where
  exact : (s : List ℕ) (v : A) (t : List ℕ) → AreBytes s → m s ≡ some (v, t) → (s ≡ enc v ++ t) × P v × AreBytes t

exact_byte : Exact byte (λ b. b ∷ []) (λ b. b < 256)
exact_byte = record { exact = go }
  where
    go : (s : List ℕ) (v : ℕ) (t : List ℕ) → AreBytes s → byte s ≡ some (v, t) → (s ≡ v ∷ t) × (v < 256) × AreBytes t
    go [] v t b e = absurd (none-ne-some (v, t) e)
    go (c ∷ s) v t b e =
        let x : ◌≡◌ {A = ℕ × List ℕ} (c, s) (v, t) = some-injective (c, s) (v, t) e in
        subst (λ (y : ℕ × List ℕ). (c ∷ s ≡ y.0 ∷ y.1) × (y.0 < 256) × AreBytes y.1) x (refl, b.0, b.1)

exact_bytes : (n : ℕ) → Exact (bytes n) (λ v. v) (λ v. (length v ≡ n) × AreBytes v)
exact_bytes n = record { exact = λ s v t b e. let x = (sure_bytes n).sure s v t b e in (cut n s v t e, x.0, x.1) }
  where
    cut : (n : ℕ) (s v t : List ℕ) → bytes n s ≡ some (v, t) → s ≡ v ++ t
    cut zero s v t e = ap (λ (y : List ℕ × List ℕ). y.0 ++ y.1) (some-injective ([], s) (v, t) e)
    cut (suc n) [] v t e = absurd (none-ne-some (v, t) e)
    cut (suc n) (b ∷ s) v t e = go (bytes n s) (cut n s) e
      where
        go : (o : Option (List ℕ × List ℕ)) → ((v t : List ℕ) → o ≡ some (v, t) → s ≡ v ++ t) → front b o ≡ some (v, t) → b ∷ s ≡ v ++ t
        go none h e = absurd (none-ne-some (v, t) e)
        go (some p) h e =
            ap (λ (u : List ℕ). b ∷ u) (h p.0 p.1 refl)
            ∙ ap (λ (y : List ℕ × List ℕ). y.0 ++ y.1) (some-injective (b ∷ p.0, p.1) (v, t) e)

module _ {A : Type 0} where
  exact_such : (m : Layout A) (p : A → Bool) {enc : A → List ℕ} {P : A → Type 0} → Exact m enc P → Exact (m such p) enc (λ a. P a × (p a ≡ true))
  exact_such m p {enc} {P} h =
      record {
        exact = λ s v t b e. let x = and_then_lem (m s) (λ a. give_if (p a) a) e in go s v t x.0.0 x.0.1 (p x.0.0) refl
            (h.exact s x.0.0 x.0.1 b x.1) x.2;
      }
    where
      go : (s : List ℕ) (v : A) (t : List ℕ) (a : A) (u : List ℕ) (q : Bool) → p a ≡ q → (s ≡ enc a ++ u) × P a × AreBytes u
          → give_if q a u ≡ some (v, t) → (s ≡ enc v ++ t) × (P v × (p v ≡ true)) × AreBytes t
      go s v t a u true i y e =
          subst (λ (z : A × List ℕ). (s ≡ enc z.0 ++ z.1) × (P z.0 × (p z.0 ≡ true)) × AreBytes z.1)
          (some-injective (a, u) (v, t) e) (y.0, (y.1, i), y.2)
      go s v t a u false i y e = absurd (none-ne-some (v, t) e)

-- a layout that goes on to give a value of what it read
module _ {A B : Type 0} (m : Layout A) (g : A → B) (enc : A → List ℕ) (enc' : B → List ℕ) {P : A → Type 0} (Q : B → Type 0) where
  exact_give : Exact m enc P → ((a : A) → P a → (enc a ≡ enc' (g a)) × Q (g a)) → Exact (m >>= λ a. give (g a)) enc' Q
  exact_give h k =
      record {
        exact = λ s v t b e.
            let x = and_then_lem (m s) (λ a. give (g a)) e in
            let y = h.exact s x.0.0 x.0.1 b x.1 in
            let z = k x.0.0 y.1 in
            subst (λ (w : B × List ℕ). (s ≡ enc' w.0 ++ w.1) × Q w.0 × AreBytes w.1)
            (some-injective (g x.0.0, x.0.1) (v, t) x.2) (y.0 ∙ ap (λ (u : List ℕ). u ++ x.0.1) z.0, z.1, y.2);
      }

exact_number : (k : ℕ) → Exact (number k) (bytes_of k) (λ n. n < 1 * 256 ^ k)
exact_number k =
    exact_give (bytes k) big (λ v. v) (bytes_of k) (λ n. n < 1 * 256 ^ k) (exact_bytes k) λ bs h.
    (sym (bytes_back 0 bs h.1) ∙ ap (λ (j : ℕ). bytes_of j (big bs)) h.0, subst (λ (j : ℕ). big bs < 1 * 256 ^ j) h.0 (big_below 0 bs h.1))

exact_signed : Exact (signed 4) (signed_bytes_of 4) (λ z. Unit {0})
exact_signed =
    exact_give (number 4) (signed_of 4) (bytes_of 4) (signed_bytes_of 4) (λ z. Unit {0}) (exact_number 4) λ n h.
    (ap (bytes_of 4) (sym (twos_again n (omega arith))), tt)

exact_one_of : (few : List ℕ) → Exact (one_of few) (λ b. b ∷ []) (λ b. (b < 256) × (any (eqb b) few ≡ true))
exact_one_of few = exact_such byte (λ b. any (eqb b) few) exact_byte

exact_name : (lo hi : ℕ) → Exact (name lo hi) name_bytes (λ v. Unit {0})
exact_name lo hi =
    record {
      exact = λ s v t b e.
          let x = and_then_lem ((byte such between lo hi) s) (λ n. bytes n such all name_byte) e in
          let y = (exact_such byte (between lo hi) exact_byte).exact s x.0.0 x.0.1 b x.1 in
          let z = (exact_such (bytes x.0.0) (all name_byte) (exact_bytes x.0.0)).exact x.0.1 v t y.2 x.2 in
          (y.0 ∙ (λ i. sym z.1.0.0 i ∷ z.0 i), tt, z.2);
    }

-- ---- field after field, to the end of the bytes

-- behind `pre`, bytes that are one value to the last are its bytes
record ExactTo {A : Type 0} (pre : List ℕ → List ℕ) (m : Layout A) (enc : A → List ℕ) : Type 0 where
  exact : (s : List ℕ) (v : A) → AreBytes s → m s ≡ some (v, []) → pre s ≡ enc v

module _ {A B : Type 0} (m : Layout A) (f : A → Layout B) {pre : List ℕ → List ℕ} {enc : A → List ℕ} {P : A → Type 0} {enc' : B → List ℕ} where
  exact_then : Exact m enc P → ((a : A) → P a → ExactTo (λ s. pre (enc a ++ s)) (f a) enc') → ExactTo pre (m >>= f) enc'
  exact_then h k =
      record {
        exact = λ s v b e.
            let x = and_then_lem (m s) f e in
            let y = h.exact s x.0.0 x.0.1 b x.1 in
            ap pre y.0 ∙ (k x.0.0 y.1).exact x.0.1 v y.2 x.2;
      }

exact_must : (b : Bool) → Exact (must b) (λ _. []) (λ _. b ≡ true)
exact_must true =
    record {
      exact = λ s v t h e. let x = some-injective (tt, s) (v, t) e in
          (ap (λ (y : Unit {0} × List ℕ). y.1) x, refl, subst AreBytes (ap (λ (y : Unit {0} × List ℕ). y.1) x) h);
    }
exact_must false = record { exact = λ s v t h e. absurd (none-ne-some (v, t) e) }

exact_end : {A : Type 0} {pre : List ℕ → List ℕ} {enc : A → List ℕ} (a : A) → pre [] ≡ enc a → ExactTo pre (give a) enc
exact_end {A} {pre} {enc} a h =
    record {
      exact = λ s v b e.
          let x : ◌≡◌ {A = A × List ℕ} (a, s) (v, []) = some-injective (a, s) (v, []) e in
          ap (λ (y : A × List ℕ). pre y.1) x ∙ (h ∙ ap (λ (y : A × List ℕ). enc y.0) x);
    }

abbrev of_price : Record → List ℕ
of_price (ArticleRecord a) = []
of_price (PriceRecord r) = row_body r
of_price (RoundingRecord r) = []
of_price (PackagingRecord p) = []
of_price (SchemeRecord c) = []

-- the flag is 0 or 1
flag_again : (n : ℕ) (z : ℤ) → any (eqb n) (0 ∷ 1 ∷ []) ≡ true → (n ≡ flag_of (value_of n z)) × (z ≡ hundredths_of (value_of n z))
flag_again n z e = two_cases (λ n. (n ≡ flag_of (value_of n z)) × (z ≡ hundredths_of (value_of n z))) 0 1 (refl, refl) (refl, refl) n e

exact_price : ExactTo (λ s. s) price_body of_price
exact_price =
    exact_then (name 1 40) _ (exact_name 1 40) λ article _.
    exact_then (name 0 20) _ (exact_name 0 20) λ condition _.
    exact_then (one_of (sale ∷ purchase ∷ [])) _ (exact_one_of (sale ∷ purchase ∷ [])) λ sort _.
    exact_then (one_of (base ∷ surcharge ∷ discount ∷ [])) _ (exact_one_of (base ∷ surcharge ∷ discount ∷ [])) λ level _.
    exact_then (one_of (1 ∷ 2 ∷ [])) _ (exact_one_of (1 ∷ 2 ∷ [])) λ rule _.
    exact_then (number 4) _ (exact_number 4) λ text_number _.
    exact_then (one_of (0 ∷ 1 ∷ [])) _ (exact_one_of (0 ∷ 1 ∷ [])) λ fixed ef.
    exact_then (signed 4) _ exact_signed λ v _.
    exact_then (must (in_bounds (value_of fixed v))) _ (exact_must (in_bounds (value_of fixed v))) λ _ _.
    exact_then (bytes 3 such capitals) _ (exact_such (bytes 3) capitals (exact_bytes 3)) λ currency _.
    exact_then (number 4) _ (exact_number 4) λ from _.
    exact_then (number 4) _ (exact_number 4) λ to _.
    exact_then (number 4) _ (exact_number 4) λ up_to _.
    exact_then (number 2) _ (exact_number 2) λ rounding _.
    let f = flag_again fixed v ef.1 in
    exact_end _ λ i. name_bytes article ++
    (name_bytes condition ++ (sort ∷ level ∷ rule ∷
    (bytes_of 4 text_number ++ (f.0 i ∷
    (signed_bytes_of 4 (f.1 i) ++ (currency ++ (bytes_of 4 from ++ (bytes_of 4 to ++ (bytes_of 4 up_to ++ bytes_of 2 rounding)))))))))

-- ---- a price record is the bytes of its row

abbrev NoPrice : Record → Type 0
NoPrice (ArticleRecord a) = Unit {0}
NoPrice (PriceRecord r) = ⊥
NoPrice (RoundingRecord r) = Unit {0}
NoPrice (PackagingRecord p) = Unit {0}
NoPrice (SchemeRecord c) = Unit {0}

body_exact : (kind : ℕ) (s : List ℕ) (r : Row) → AreBytes s → body kind s ≡ some (PriceRecord r, []) → kind ∷ s ≡ 2 ∷ row_body r
body_exact zero s r b e = absurd (none-ne-some (PriceRecord r, []) e)
body_exact (suc zero) s r b e = absurd ((other₁ NoPrice (λ x. tt)).sure s (PriceRecord r) [] e)
body_exact (suc (suc zero)) s r b e = ap (λ (u : List ℕ). 2 ∷ u) (exact_price.exact s (PriceRecord r) b e)
body_exact (suc (suc (suc zero))) s r b e = absurd ((other₃ NoPrice (λ x. tt)).sure s (PriceRecord r) [] e)
body_exact (suc (suc (suc (suc zero)))) s r b e = absurd ((other₄ NoPrice (λ x. tt)).sure s (PriceRecord r) [] e)
body_exact (suc (suc (suc (suc (suc zero))))) s r b e = absurd ((other₅ NoPrice (λ x. tt)).sure s (PriceRecord r) [] e)
body_exact (suc (suc (suc (suc (suc (suc k)))))) s r b e = absurd (none-ne-some (PriceRecord r, []) e)

kinded_exact : (s : List ℕ) (r : Row) → AreBytes s → whole kinded s ≡ some (PriceRecord r) → s ≡ 2 ∷ row_body r
kinded_exact [] r b e = absurd (none-ne-some (PriceRecord r) e)
kinded_exact (k ∷ s) r b e = go (body k s) refl e
  where
    go : (o : Option (Record × List ℕ)) → body k s ≡ o → wholly o ≡ some (PriceRecord r) → k ∷ s ≡ 2 ∷ row_body r
    go none i e = absurd (none-ne-some (PriceRecord r) e)
    go (some (x, [])) i e = body_exact k s r b.1 (i ∙ ap (λ (y : Record). some (y, [])) (some-injective x (PriceRecord r) e))
    go (some (x, c ∷ t)) i e = absurd (none-ne-some (PriceRecord r) e)

-- Where a price record is read, its bytes are those of its row.
pub record_exact : (s : List ℕ) (r : Row) (t : List ℕ) → AreBytes s → one_record s ≡ some (PriceRecord r, t) → (s ≡ row_bytes r ++ t) × AreBytes t
unfolding row_bytes
record_exact s r t b e =
    let x = and_then_lem (number 2 s) (λ n. framed n kinded) e in
    let y = (exact_number 2).exact s x.0.0 x.0.1 b x.1 in
    let z = and_then_lem (bytes x.0.0 x.0.1) (λ s. back (whole kinded s)) x.2 in
    let w = (exact_bytes x.0.0).exact x.0.1 z.0.0 z.0.1 y.2 z.1 in
    let q = back_is (whole kinded z.0.0) z.0.1 (PriceRecord r) t z.2 in
    let k : z.0.0 ≡ 2 ∷ row_body r = kinded_exact z.0.0 r w.1.1 q.0 in
    let n : x.0.0 ≡ suc (length (row_body r)) = sym w.1.0 ∙ ap length k in (
      y.0
          ∙ ((λ i. bytes_of 2 (n i) ++ (w.0 ∙ (λ j. k j ++ sym q.1 j)) i)
          ∙ sym (append_assoc (bytes_of 2 (suc (length (row_body r)))) (2 ∷ row_body r) t)),
      subst AreBytes (sym q.1) w.2,
    )

first_of : Record → List Record → Record
first_of d [] = d
first_of d (x ∷ xs) = x

behind_first : List Record → List Record
behind_first [] = []
behind_first (x ∷ xs) = xs

no_records : (rs : List Row) → [] ≡ map PriceRecord rs → [] ≡ rows_bytes rs
unfolding rows_bytes
no_records [] e = refl
no_records (r ∷ rs) e = absurd (omega (arith, ap length e))

rows_exact : (n : ℕ) (s : List ℕ) (v : List Record) (t : List ℕ) (rs : List Row) → AreBytes s → to_end n one_record s ≡ some (v, t)
    → v ≡ map PriceRecord rs → s ≡ rows_bytes rs
unfolding rows_bytes first_of behind_first
rows_exact zero [] v t rs b e f = no_records rs (ap (λ (x : List Record × List ℕ). x.0) (some-injective ([], []) (v, t) e) ∙ f)
rows_exact zero (c ∷ s) v t rs b e f = absurd (none-ne-some (v, t) e)
rows_exact (suc n) [] v t rs b e f = no_records rs (ap (λ (x : List Record × List ℕ). x.0) (some-injective ([], []) (v, t) e) ∙ f)
rows_exact (suc n) (c ∷ s) v t rs b e f =
    let x = and_then_lem (one_record (c ∷ s)) (λ a. to_end n one_record >>= λ rest. give (a ∷ rest)) e in
    let z = and_then_lem (to_end n one_record x.0.1) (λ rest. give (x.0.0 ∷ rest)) x.2 in
    go x.0.0 x.0.1 z.0.0 rs x.1 (λ qs h. rows_exact n x.0.1 z.0.0 z.0.1 qs h z.1)
    (ap (λ (y : List Record × List ℕ). y.0) (some-injective (x.0.0 ∷ z.0.0, z.0.1) (v, t) z.2) ∙ f)
  where
    go : (a : Record) (u : List ℕ) (as' : List Record) (rs : List Row) → one_record (c ∷ s) ≡ some (a, u)
        → ((qs : List Row) → AreBytes u → as' ≡ map PriceRecord qs → u ≡ rows_bytes qs) → a ∷ as' ≡ map PriceRecord rs → c ∷ s ≡ rows_bytes rs
    go a u as' [] i k e = absurd (omega (arith, ap length e))
    go a u as' (r ∷ rs) i k e =
        let p : a ≡ PriceRecord r = ap (first_of a) e in
        let y = record_exact (c ∷ s) r u b (i ∙ ap (λ (q : Record). some (q, u)) p) in
        y.0 ∙ ap (λ (w : List ℕ). row_bytes r ++ w) (k rs y.1 (ap behind_first e))

-- A book of price records alone is the bytes of its rows behind a head.
pub book_exact : (b : List ℕ) (rs : List Row) → AreBytes b → records b ≡ some (map PriceRecord rs) → b ≡ book_with (rows_bytes rs)
unfolding records book_with
book_exact b rs h e = go (book_layout (length b) b) refl e
  where
    read : (v : List Record) (t : List ℕ) → book_layout (length b) b ≡ some (v, t) → v ≡ map PriceRecord rs
        → b ≡ bytes_of 4 (5 + length (rows_bytes rs)) ++ (1 ∷ rows_bytes rs)
    read v t f g =
        let x = and_then_lem (must (leb (length b) most_bytes) b) (λ _. head (length b) >>= λ _. repeated one_record) f in
        let m = (exact_must (leb (length b) most_bytes)).exact b x.0.0 x.0.1 h x.1 in
        let y = and_then_lem (head (length b) x.0.1) (λ _. repeated one_record) x.2 in
        let w = and_then_lem ((number 4 such eqb (length b)) x.0.1) (λ _. one_of (1 ∷ [])) y.1 in
        let p = (exact_such (number 4) (eqb (length b)) (exact_number 4)).exact x.0.1 w.0.0 w.0.1 m.2 w.1 in
        let q = (exact_one_of (1 ∷ [])).exact w.0.1 y.0.0 y.0.1 p.2 w.2 in
        let r : y.0.1 ≡ rows_bytes rs = rows_exact (length y.0.1) y.0.1 v t rs q.2 y.2 g in
        finish w.0.0 w.0.1 y.0.0 y.0.1 m.0 p.0 q.0 (eqb-true (length b) w.0.0 p.1.1) q.1.1 r
      where
        finish : (n : ℕ) (u : List ℕ) (k : ℕ) (s : List ℕ) {w : List ℕ} → b ≡ w → w ≡ bytes_of 4 n ++ u → u ≡ k ∷ s → length b ≡ n
            → any (eqb k) (1 ∷ []) ≡ true → s ≡ rows_bytes rs → b ≡ bytes_of 4 (5 + length (rows_bytes rs)) ++ (1 ∷ rows_bytes rs)
        finish n u k s e₀ e₁ e₂ e₃ e₄ e₅ =
            let one : k ≡ 1 = eqb-true k 1 (sym (or_false (eqb k 1)) ∙ e₄) in
            let all_of : u ≡ 1 ∷ rows_bytes rs = e₂ ∙ (λ i. one i ∷ e₅ i) in
            let long : n ≡ 5 + length (rows_bytes rs) =
            sym e₃ ∙ (ap length (e₀ ∙ e₁) ∙ (ap (λ (w : List ℕ). length (bytes_of 4 n ++ w)) all_of ∙ omega arith)) in
            e₀ ∙ e₁ ∙ (λ i. bytes_of 4 (long i) ++ all_of i)

    go : (o : Option (List Record × List ℕ)) → book_layout (length b) b ≡ o → wholly o ≡ some (map PriceRecord rs)
        → b ≡ bytes_of 4 (5 + length (rows_bytes rs)) ++ (1 ∷ rows_bytes rs)
    go none i e = absurd (none-ne-some (map PriceRecord rs) e)
    go (some (v, [])) i e = read v [] i (some-injective v (map PriceRecord rs) e)
    go (some (v, c ∷ t)) i e = absurd (none-ne-some (map PriceRecord rs) e)
