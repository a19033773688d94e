-- "Factors on conditions": the bytes of a question of version 1, written in version 2 with the factor 1,000 behind every name, are the same question.
use Prim.Native.Nat.{ℕ, zero, suc, ◌+◌, ◌*◌, ◌-◌, ◌≤◌, ◌<◌}
use mathlib.Core.Path.{◌≡◌, refl, sym, ◌∙◌, ap, subst}
use mathlib.Core.Bool.{Bool, true, false, ◌||◌}
use mathlib.Core.List.{List, [], ◌∷◌, ◌++◌, append_assoc}
use mathlib.Core.Option.{some, none-ne-some, some-injective}
use native.Mathlib.Nat.{suc-mul, mul-le-mul_right}
use native.Mathlib.Omega.{arith}
use lib.Dec.{eqb}
use lib.ListN.{length, take, drop, length-append, length-drop}
use lib.Seq.{take_at, drop_at, drop-drop, take-append_seam, drop-append_seam}
use borrow.Author.Tests.{eq-eqb}
use Rattle.rules.specs.Lists.{same, between, all}
use Rattle.rules.specs.Layout.{Layout, and_then, ◌>>=◌, give, give_if, ◌such◌, bytes, byte, times, whole, wholly}
use Rattle.rules.specs.Bytes.{number, name, name_byte, one_of, head_of, capitals, bytes_of}
use Rattle.rules.specs.Days.{is_day}
use Rattle.rules.specs.Book.{sale, purchase}
use Rattle.rules.specs.Question.{Question, Granted, plain_factor, no_currency, asked_of, value_byte, value_for, property, factor_in, granted_in, versions, question_body, question_layout, question_of, count_at, with_factors, in_version₂}
use Rattle.rules.proofs.GivesLaws.{Gives, gives_any, gives_field, gives_value, gives_such, gives_name, gives_times, question_sound}
use Rattle.rules.proofs.QuestionsLaws.{own_length_lem}
use Rattle.rules.proofs.TestLaws.{between_high}
use Rattle.rules.proofs.TakesLaws.{whole_end}
use Rattle.rules.proofs.FactorLaws.{AnsweredAlike, answered_alike}
use Rattle.layout.specs.Reads.{only}
use Rattle.layout.specs.Ensures.{question_head_ok}
use Rattle.layout.proofs.LayoutLaws.{and_then_some}
use Rattle.layout.proofs.StoreLaws.{number_back}
use Rattle.layout.proofs.FromLaws.{question_head_reads}
use Rattle.question.specs.Parts.{version_of}
use Rattle.question.proofs.RedateLaws.{Reading, reading_such, reading_byte, reading_one_of, reading_name, reading_number, such_bytes, such_back, bytes_split, bytes_front}

-- ---- a name

-- it was read from its length and its bytes, and is read from them again whatever stands behind
name_read : (lo hi : ℕ) (s v t : List ℕ) → name lo hi s ≡ some (v, t) → (s ≡ length v ∷ (v ++ t)) × ((u : List ℕ) → name lo hi (length v ∷ (v ++ u)) ≡ some (v, u))
name_read lo hi [] v t e = absurd (none-ne-some (v, t) e)
name_read lo hi (b ∷ s) v t e =
    let x = and_then_some ((byte such between lo hi) (b ∷ s)) (λ n. bytes n such all name_byte) e in
    let size = such_back (between lo hi b) b x.0.0 s x.0.1 x.1 in
    let y = and_then_some (bytes x.0.0 x.0.1) (λ w. give_if (all name_byte w) w) x.2 in
    let good = such_back (all name_byte y.0.0) y.0.0 v y.0.1 t y.2 in
    let split = bytes_split x.0.0 x.0.1 y.0.0 y.0.1 y.1 in
    let is_v : y.0.0 ≡ v = ap (λ (p : List ℕ × List ℕ). p.0) good.1 in
    let is_t : y.0.1 ≡ t = ap (λ (p : List ℕ × List ℕ). p.1) good.1 in
    let is_b : b ≡ length v = ap (λ (p : ℕ × List ℕ). p.0) size.1 ∙ sym split.1 ∙ ap length is_v in
    let is_s : s ≡ v ++ t = ap (λ (p : ℕ × List ℕ). p.1) size.1 ∙ split.0 ∙ (λ i. is_v i ++ is_t i) in
    let in_size : between lo hi (length v) ≡ true = ap (between lo hi) (sym is_b) ∙ size.0 in
    let in_bytes : all name_byte v ≡ true = ap (all name_byte) (sym is_v) ∙ good.0 in (
      (λ i. is_b i ∷ is_s i),
      λ u.
          ap (λ (c : Bool). and_then (give_if c (length v) (v ++ u)) (λ n. bytes n such all name_byte)) in_size
          ∙ ap (λ o. and_then o (λ w. give_if (all name_byte w) w)) (bytes_front v u)
          ∙ ap (λ (c : Bool). give_if c v u) in_bytes,
    )

-- ---- how many bytes are read

-- at most so many
record Short {A : Type 0} (m : Layout A) (n : ℕ) : Type 0 where
  takes : (s : List ℕ) (v : A) (t : List ℕ) → m s ≡ some (v, t) → length s ≤ length t + n

module _ {A : Type 0} where
  short_reading : {m : Layout A} {P : A → ℕ → Type 0} (n : ℕ) → Reading m P → ((v : A) (k : ℕ) → P v k → k ≤ n) → Short m n
  short_reading n l h = record {
    takes = λ s v t e.
        let r = l.reads s v t e in
        omega (arith, h v (length r.taken) r.size, ap length r.splits, length-append r.taken t);
  }

  short_such : {m : Layout A} {n : ℕ} → Short m n → (p : A → Bool) → Short (m such p) n
  short_such {m} h p = record {
    takes = λ s v t e.
        let x = and_then_some (m s) (λ a. give_if (p a) a) e in
        let y = such_back (p x.0.0) x.0.0 v x.0.1 t x.2 in
        omega (arith, h.takes s x.0.0 x.0.1 x.1, ap (λ (w : A × List ℕ). length w.1) y.1);
  }

  short_more : {m : Layout A} {n : ℕ} (k : ℕ) → Short m n → n ≤ k → Short m k
  short_more k h l = record { takes = λ s v t e. omega (arith, h.takes s v t e) }

  short_give : (a : A) → Short (give a) 0
  short_give a = record { takes = λ s v t e. omega (arith, ap (λ (w : A × List ℕ). length w.1) (some-injective (a, s) (v, t) e)) }

module _ {A B : Type 0} where
  -- a field that is sure of P, and then the others
  short_field : (m : Layout A) (f : A → Layout B) {P : A → Type 0} {n k : ℕ} → Gives m P → Short m n → ((v : A) → P v → Short (f v) k) → Short (m >>= f) (n + k)
  short_field m f g h l = record {
    takes = λ s v t e.
        let x = and_then_some (m s) f e in
        let sure = g.sure s x.0.0 x.0.1 x.1 in
        omega (arith, h.takes s x.0.0 x.0.1 x.1, (l x.0.0 sure).takes x.0.1 v t x.2);
  }

short_name : (lo hi : ℕ) → Short (name lo hi) (1 + hi)
short_name lo hi = record {
  takes = λ s v t e.
      let r = (reading_name lo hi).reads s v t e in
      let b = between_high lo hi (length v) ((gives_name lo hi).sure s v t e) in
      omega (arith, r.size, ap length r.splits, length-append r.taken t);
}

short_times : {A : Type 0} (n : ℕ) (m : Layout A) {k : ℕ} → Short m k → Short (times n m) (n * k)
short_times zero m h = short_more _ (short_give []) (omega arith)
short_times (suc n) m {k} h =
    short_more (suc n * k)
    (short_field m _ (gives_any m) h λ a _.
    short_field (times n m) _ (gives_any (times n m)) (short_times n m h) λ rest _.
    short_give (a ∷ rest)) (omega (arith, suc-mul n k))

-- up to 32 of them
short_counted : {A : Type 0} (m : Layout A) {k : ℕ} → Short m k → (n : ℕ) → between 0 32 n ≡ true → Short (times n m) (32 * k)
short_counted m {k} h n b = short_more (32 * k) (short_times n m h) (mul-le-mul_right k (between_high 0 32 n b))

short_value : (width : ℕ) → between 1 30 width ≡ true → (state : ℕ) → Short (value_for width state) 31
short_value width b zero = short_more 31 (short_such (short_name 1 width) (all value_byte)) (omega (arith, between_high 1 30 width b))
short_value width b (suc state) = short_more 31 (short_name 0 0) (omega arith)

short_property : Short property 33
short_property =
    short_more 33
    (short_field (byte such between 1 30) _ (gives_such byte (between 1 30)) (short_reading 1 (reading_such reading_byte (between 1 30)) (λ v k p. omega arith)) λ width b.
    short_field (one_of (0 ∷ 1 ∷ 2 ∷ [])) _ (gives_any (one_of (0 ∷ 1 ∷ 2 ∷ []))) (short_reading 1 (reading_one_of (0 ∷ 1 ∷ 2 ∷ [])) (λ v k p. omega arith)) λ state _.
    short_field (value_for width state) _ (gives_any (value_for width state)) (short_value width b state) λ value _.
    short_give _) (omega arith)

short_granted : Short (granted_in 1) 21
short_granted = short_more 21 (short_field (name 1 20) _ (gives_any (name 1 20)) (short_name 1 20) λ v _. short_give _) (omega arith)

-- what stands behind the version
short_body : Short (question_body 1) 2000
short_body =
    short_more 2000
    (short_field (name 1 40) _ (gives_any (name 1 40)) (short_name 1 40) λ article _.
    short_field (one_of (sale ∷ purchase ∷ [])) _ (gives_any (one_of (sale ∷ purchase ∷ []))) (short_reading 1 (reading_one_of (sale ∷ purchase ∷ [])) (λ v k p. omega arith)) λ sort _.
    short_field (bytes 3 such λ c. capitals c || same c no_currency) _ (gives_any (bytes 3 such λ c. capitals c || same c no_currency))
    (short_reading 3 (such_bytes 3 (λ c. capitals c || same c no_currency)) (λ v k p. omega (arith, p.1))) λ currency _.
    short_field (number 4 such is_day) _ (gives_any (number 4 such is_day)) (short_reading 4 (reading_such (reading_number 4) is_day) (λ v k p. omega arith)) λ date _.
    short_field (number 4 such between 1 100_000) _ (gives_any (number 4 such between 1 100_000)) (short_reading 4 (reading_such (reading_number 4) (between 1 100_000)) (λ v k p. omega arith)) λ quantity _.
    short_field (byte such between 0 32) _ (gives_such byte (between 0 32)) (short_reading 1 (reading_such reading_byte (between 0 32)) (λ v k p. omega arith)) λ conditions b.
    short_field (times conditions (granted_in 1)) _ (gives_any (times conditions (granted_in 1))) (short_counted (granted_in 1) short_granted conditions b) λ granted _.
    short_field (byte such between 0 32) _ (gives_such byte (between 0 32)) (short_reading 1 (reading_such reading_byte (between 0 32)) (λ v k p. omega arith)) λ count c.
    short_field (times count property) _ (gives_any (times count property)) (short_counted property short_property count c) λ properties _.
    short_give _) (omega arith)

-- ---- the names, one behind the other

-- read in version 1, they are read in version 2 once they have factors, which are two bytes each
record Factors (n : ℕ) (s : List ℕ) (gs : List Granted) (t : List ℕ) : Type 0 where
  read : times n (granted_in 2) (with_factors n s) ≡ some (gs, t)
  long : length (with_factors n s) ≡ length s + 2 * n

names_again : (n : ℕ) (s : List ℕ) (gs : List Granted) (t : List ℕ) → times n (granted_in 1) s ≡ some (gs, t) → Factors n s gs t
unfolding with_factors
names_again zero s gs t e = record { read = e; long = omega arith }
names_again (suc n) s gs t e =
    let x = and_then_some (granted_in 1 s) (λ a. times n (granted_in 1) >>= λ rest. give (a ∷ rest)) e in
    let y = and_then_some (name 1 20 s) (λ v. give (plain v)) x.1 in
    let z = and_then_some (times n (granted_in 1) x.0.1) (λ rest. give (x.0.0 ∷ rest)) x.2 in
    let p = some-injective (plain y.0.0, y.0.1) x.0 y.2 in
    let own = name_read 1 20 s y.0.0 y.0.1 y.1 in
    let ih = names_again n x.0.1 z.0.0 z.0.1 z.1 in
    let left : List ℕ = with_factors n x.0.1 in
    let is : with_factors (suc n) s ≡ length y.0.0 ∷ (y.0.0 ++ (bytes_of 2 plain_factor ++ left)) =
    ap (with_factors (suc n)) own.0
    ∙ (λ i. length y.0.0 ∷ (take-append_seam y.0.0 y.0.1 i ++ (bytes_of 2 plain_factor ++ with_factors n (drop-append_seam y.0.0 y.0.1 i))))
    ∙ (λ i. length y.0.0 ∷ (y.0.0 ++ (bytes_of 2 plain_factor ++ with_factors n (p i).1))) in
    record {
      read =
          ap (times (suc n) (granted_in 2)) is
          ∙ ap (λ o. and_then (and_then o (λ v. factor_in 2 >>= λ f. give (record { name = v; factor = f }))) (λ a. times n (granted_in 2) >>= λ rest. give (a ∷ rest)))
          (own.1 (bytes_of 2 plain_factor ++ left))
          ∙ ap (λ o. and_then o (λ rest. give (plain y.0.0 ∷ rest))) ih.read
          ∙ (λ i. some ((p i).0 ∷ z.0.0, z.0.1))
          ∙ z.2;
      long =
          ap length is
          ∙ omega (
            arith,
            length-append y.0.0 (bytes_of 2 plain_factor ++ left),
            ih.long,
            ap length own.0,
            length-append y.0.0 y.0.1,
            ap (λ (w : Granted × List ℕ). length w.1) p,
          );
    }
  where
    plain : List ℕ → Granted
    plain v = record { name = v; factor = plain_factor }

-- ---- a field that is read alike, and the names behind it

-- m reads q off the front of s; with factors behind the names m' reads it too
record Refit (m' : Layout Question) (R : Question → ℕ → Type 0) (s : List ℕ) (q : Question) (t : List ℕ) : Type 0 where
  ahead : List ℕ
  rest : List ℕ
  splits : s ≡ ahead ++ rest
  place : R q (length ahead)
  again : m' (ahead ++ with_factors (length q.granted) rest) ≡ some (q, t)
  long : length (with_factors (length q.granted) rest) ≡ length rest + 2 * length q.granted

record Refits (m m' : Layout Question) (R : Question → ℕ → Type 0) : Type 0 where
  refit : (s : List ℕ) (q : Question) (t : List ℕ) → m s ≡ some (q, t) → Refit m' R s q t

refits_then : {A : Type 0} {m : Layout A} {P : A → ℕ → Type 0} {f f' : A → Layout Question} {Q : A → Question → ℕ → Type 0} → Reading m P → ((a : A) → Refits (f a) (f' a) (Q a))
    → (R : Question → ℕ → Type 0) → ((a : A) (q : Question) (k j : ℕ) → P a k → Q a q j → R q (k + j)) → Refits (m >>= f) (m >>= f') R
refits_then {m = m} {P} {f} {f'} {Q} l n R sum = record {
  refit = λ s q t e.
      let x = and_then_some (m s) f e in
      let r = l.reads s x.0.0 x.0.1 x.1 in
      let h : Refit (f' x.0.0) (Q x.0.0) x.0.1 q t = (n x.0.0).refit x.0.1 q t x.2 in
      let w : List ℕ = with_factors (length q.granted) h.rest in
      record {
        ahead = r.taken ++ h.ahead;
        rest = h.rest;
        splits = r.splits ∙ (ap (λ (u : List ℕ). r.taken ++ u) h.splits ∙ sym (append_assoc r.taken h.ahead h.rest));
        place = subst (R q) (sym (length-append r.taken h.ahead)) (sum x.0.0 q (length r.taken) (length h.ahead) r.size h.place);
        again = ap (λ (u : List ℕ). and_then (m u) f') (append_assoc r.taken h.ahead w) ∙ (ap (λ o. and_then o f') (r.again (h.ahead ++ w)) ∙ h.again);
        long = h.long;
      };
}

-- ---- a question

-- for this article, with so many bytes ahead of its names
abbrev For : List ℕ → ℕ → Question → ℕ → Type 0
For article n q k = (q.article ≡ article) × (k ≡ n)

module _ (article : List ℕ) (sort : ℕ) (currency : List ℕ) (date quantity : ℕ) where
  -- what stands behind the names
  behind : List Granted → Layout Question
  behind granted = do
    count ← byte such between 0 32
    properties ← times count property
    give (record {
      article = article;
      sort = sort;
      currency = asked_of currency;
      date = date;
      quantity = quantity;
      granted = granted;
      properties = properties;
    })

  gives_behind : (granted : List Granted) → Gives (behind granted) (λ q. (q.article ≡ article) × (q.granted ≡ granted))
  unfolding behind
  gives_behind granted =
      gives_field (byte such between 0 32) _ (gives_any (byte such between 0 32)) λ count _.
      gives_field (times count property) _ (gives_any (times count property)) λ properties _.
      gives_value _ (refl, refl)

  abbrev counted : ℕ → Layout Question
  counted version = (byte such between 0 32) >>= λ n. times n (granted_in version) >>= behind

  counted_refits : Refits (counted 1) (counted 2) (For article 1)
  counted_refits = record {
    refit = λ s q t e.
        let x = and_then_some ((byte such between 0 32) s) (λ n. times n (granted_in 1) >>= behind) e in
        let n : ℕ = x.0.0 in
        let r = (reading_such reading_byte (between 0 32)).reads s n x.0.1 x.1 in
        let y = and_then_some (times n (granted_in 1) x.0.1) behind x.2 in
        let names = names_again n x.0.1 y.0.0 y.0.1 y.1 in
        let own = (gives_behind y.0.0).sure y.0.1 q t y.2 in
        let count : length q.granted ≡ n = ap length own.1 ∙ (gives_times n (granted_in 1)).sure x.0.1 y.0.0 y.0.1 y.1 in
        record {
          ahead = r.taken;
          rest = x.0.1;
          splits = r.splits;
          place = (own.0, r.size);
          again =
              ap (λ (k : ℕ). counted 2 (r.taken ++ with_factors k x.0.1)) count
              ∙ ap (λ o. and_then o (λ n. times n (granted_in 2) >>= behind)) (r.again (with_factors n x.0.1))
              ∙ ap (λ o. and_then o behind) names.read
              ∙ y.2;
          long = ap (λ (k : ℕ). length (with_factors k x.0.1)) count ∙ names.long ∙ ap (λ (k : ℕ). length x.0.1 + 2 * k) (sym count);
        };
  }

body_refits : Refits (question_body 1) (question_body 2) (λ q k. k ≡ 14 + length q.article)
unfolding behind
body_refits =
    let l =
    refits_then (reading_name 1 40) (λ article.
    refits_then (reading_one_of (sale ∷ purchase ∷ [])) (λ sort.
    refits_then (such_bytes 3 (λ c. capitals c || same c no_currency)) (λ currency.
    refits_then (reading_such (reading_number 4) is_day) (λ date.
    refits_then (reading_such (reading_number 4) (between 1 100_000)) (λ quantity.
    counted_refits article sort currency date quantity)
    (For article 5) (λ a q k j p h. (h.0, omega (arith, h.1))))
    (For article 9) (λ a q k j p h. (h.0, omega (arith, h.1))))
    (For article 12) (λ a q k j p h. (h.0, omega (arith, p.1, h.1))))
    (For article 13) (λ a q k j p h. (h.0, omega (arith, h.1))))
    (λ (q : Question) (k : ℕ). k ≡ 14 + length q.article) (λ a q k j p h. omega (arith, h.1, ap length h.0)) in
    l

only_some : {A : Type 0} (b : Bool) (x y : A) → some x ≡ only b y → x ≡ y
only_some true x y e = some-injective x y e
only_some false x y e = absurd (none-ne-some x (sym e))

-- the head of the new bytes
head_again : (n : ℕ) (t : List ℕ) → n < 4294967296 → head_of versions n (bytes_of 4 n ++ (2 ∷ t)) ≡ some (2, t)
head_again n t h =
    ap (λ (m : ℕ). and_then (give_if (eqb n m) m (2 ∷ t)) (λ _. one_of versions)) (number_back 4 n h)
    ∙ ap (λ (b : Bool). and_then (give_if b n (2 ∷ t)) (λ _. one_of versions)) (eq-eqb n n refl)

-- A question of version 1 with the factor 1,000 put behind every name, and so of version 2, is the same question.
pub version_2_reads : (s : List ℕ) (q : Question) → question_of s ≡ some q → version_of s ≡ 1 → question_of (in_version₂ q s) ≡ some q
unfolding question_of in_version₂
version_2_reads s q e one =
    let x = and_then_some (head_of versions (length s) s) question_body (whole_end (question_layout (length s) s) q e) in
    let five : 5 ≤ length s = (own_length_lem s q e).1 in
    let head = only_some (question_head_ok s) x.0 (version_of s, drop 5 s) (sym x.1 ∙ (question_head_reads s).is) in
    let version : 1 ≡ x.0.0 = sym (ap (λ (p : ℕ × List ℕ). p.0) head ∙ one) in
    let left : drop 5 s ≡ x.0.1 = sym (ap (λ (p : ℕ × List ℕ). p.1) head) in
    let body : question_body 1 (drop 5 s) ≡ some (q, []) = (λ i. question_body (version i) (left i)) ∙ x.2 in
    let r = body_refits.refit (drop 5 s) q [] body in
    let n : ℕ = length q.granted in
    let new : List ℕ = r.ahead ++ with_factors n r.rest in
    let size : ℕ = length s + 2 * n in
    let at : length r.ahead ≡ count_at q - 4 = r.place ∙ omega arith in
    let front : take (count_at q - 4) (drop 5 s) ≡ r.ahead = ap (take (count_at q - 4)) r.splits ∙ take_at r.ahead r.rest (count_at q - 4) at in
    let behind : 5 + (count_at q - 4) ≡ count_at q + 1 = omega arith in
    let back : drop (count_at q + 1) s ≡ r.rest =
    ap (λ (k : ℕ). drop k s) (sym behind) ∙ sym (drop-drop (count_at q - 4) 5 s) ∙ ap (drop (count_at q - 4)) r.splits ∙ drop_at r.ahead r.rest (count_at q - 4) at in
    let is : bytes_of 4 size ++ (2 ∷ (take (count_at q - 4) (drop 5 s) ++ with_factors n (drop (count_at q + 1) s))) ≡ bytes_of 4 size ++ (2 ∷ new) =
    λ i. bytes_of 4 size ++ (2 ∷ (front i ++ with_factors n (back i))) in
    let long : length (bytes_of 4 size ++ (2 ∷ new)) ≡ size =
    omega (arith, length-append r.ahead (with_factors n r.rest), r.long, length-drop 5 s, ap length r.splits, length-append r.ahead r.rest) in
    ap question_of is
    ∙ ap (λ (k : ℕ). whole (question_layout k) (bytes_of 4 size ++ (2 ∷ new))) long
    ∙ ap (λ o. wholly (and_then o question_body)) (head_again size new (omega (arith, (question_sound s q e).granted, short_body.takes (drop 5 s) q [] body, length-drop 5 s)))
    ∙ ap wholly r.again

-- and gets the same answer from every call
pub version_2_alike : (s : List ℕ) (q : Question) → question_of s ≡ some q → version_of s ≡ 1 → AnsweredAlike s (in_version₂ q s)
version_2_alike s q e one = answered_alike s (in_version₂ q s) (e ∙ sym (version_2_reads s q e one))
