-- A question's bytes with another day in the place of the date are the same question on that day.
use Prim.Native.Nat.{ℕ, zero, suc, ◌+◌}
use mathlib.Core.Path.{◌≡◌, refl, sym, ◌∙◌, ap, subst}
use mathlib.Core.Bool.{Bool, true, false, ◌||◌}
use mathlib.Core.List.{List, [], ◌∷◌, ◌++◌, append_assoc}
use mathlib.Core.Option.{Option, some, none, none-ne-some, some-injective}
use native.Mathlib.Omega.{arith}
use lib.Dec.{eqb}
use lib.ListN.{length, take, drop, length-append}
use lib.Seq.{take_at, drop_at}
use Rattle.rules.specs.Lists.{same, between, all, any}
use Rattle.rules.specs.Layout.{Layout, and_then, ◌>>=◌, give, give_if, ◌such◌, bytes, front, byte, times, whole, wholly}
use Rattle.rules.specs.Bytes.{number, big, name, name_byte, one_of, head_of, capitals, bytes_of}
use Rattle.rules.specs.Days.{is_day}
use Rattle.rules.specs.Book.{sale, purchase}
use Rattle.rules.specs.Question.{Question, no_currency, asked_of, property, granted_in, versions, question_layout, question_of, on, date_at, redated}
use Rattle.rules.proofs.DayLaws.{day_most}
use Rattle.rules.proofs.TakesLaws.{whole_end}
use Rattle.layout.proofs.LayoutLaws.{and_then_some}
use Rattle.layout.proofs.StoreLaws.{number_back}

-- ---- before the date: a field reads the same bytes again, whatever stands behind them

-- `v` was read from the front of s, and t was left: which bytes those were
pub record Read {A : Type 0} (m : Layout A) (P : A → ℕ → Type 0) (s : List ℕ) (v : A) (t : List ℕ) : Type 0 where
  pub taken : List ℕ
  pub splits : s ≡ taken ++ t
  pub size : P v (length taken)
  pub again : (u : List ℕ) → m (taken ++ u) ≡ some (v, u)

pub record Reading {A : Type 0} (m : Layout A) (P : A → ℕ → Type 0) : Type 0 where
  pub reads : (s : List ℕ) (v : A) (t : List ℕ) → m s ≡ some (v, t) → Read m P s v t

module _ {A : Type 0} where
  pub such_back : (b : Bool) (a v : A) (s t : List ℕ) → give_if b a s ≡ some (v, t) → (b ≡ true) × ◌≡◌ {A = A × List ℕ} (a, s) (v, t)
  such_back true a v s t e = (refl, some-injective (a, s) (v, t) e)
  such_back false a v s t e = absurd (none-ne-some (v, t) e)

  pub reading_such : {m : Layout A} {P : A → ℕ → Type 0} → Reading m P → (p : A → Bool) → Reading (m such p) P
  reading_such {m} {P} l p = record {
    reads = λ s v t e.
        let x = and_then_some (m s) (λ a. give_if (p a) a) e in
        let y = such_back (p x.0.0) x.0.0 v x.0.1 t x.2 in
        let f : Read m P s v t = l.reads s v t (x.1 ∙ ap some y.1) in
        let z : p v ≡ true = ap (λ w. p w.0) (sym y.1) ∙ y.0 in
        record {
          taken = f.taken;
          splits = f.splits;
          size = f.size;
          again = λ u. ap (λ o. and_then o (λ a. give_if (p a) a)) (f.again u) ∙ ap (λ (b : Bool). give_if b v u) z;
        };
  }

  reading_give : (a : A) (P : A → ℕ → Type 0) → P a 0 → Reading (give a) P
  reading_give a P z = record {
    reads = λ s v t e.
        let p = some-injective (a, s) (v, t) e in
        record {
          taken = [];
          splits = ap (λ x. x.1) p;
          size = subst (λ (x : A). P x 0) (ap (λ x. x.0) p) z;
          again = λ u i. some ((p i).0, u);
        };
  }

module _ {A B : Type 0} where
  reading_then : {m : Layout A} {P : A → ℕ → Type 0} {f : A → Layout B} {Q : A → B → ℕ → Type 0} → Reading m P → ((a : A) → Reading (f a) (Q a))
      → (R : B → ℕ → Type 0) → ((a : A) (b : B) (k j : ℕ) → P a k → Q a b j → R b (k + j)) → Reading (m >>= f) R
  reading_then {m} {P} {f} {Q} l n R sum = record {
    reads = λ s v t e.
        let x = and_then_some (m s) f e in
        let g : Read m P s x.0.0 x.0.1 = l.reads s x.0.0 x.0.1 x.1 in
        let h : Read (f x.0.0) (Q x.0.0) x.0.1 v t = (n x.0.0).reads x.0.1 v t x.2 in
        record {
          taken = g.taken ++ h.taken;
          splits = g.splits ∙ (ap (λ (r : List ℕ). g.taken ++ r) h.splits ∙ sym (append_assoc g.taken h.taken t));
          size = subst (R v) (sym (length-append g.taken h.taken)) (sum x.0.0 v (length g.taken) (length h.taken) g.size h.size);
          again = λ u. ap (λ (r : List ℕ). and_then (m r) f) (append_assoc g.taken h.taken u) ∙ (ap (λ o. and_then o f) (g.again (h.taken ++ u)) ∙ h.again u);
        };
  }

front_back : (b : ℕ) (o : Option (List ℕ × List ℕ)) (v t : List ℕ) → front b o ≡ some (v, t) → (x : List ℕ) × (o ≡ some (x, t)) × (v ≡ b ∷ x)
front_back b none v t e = absurd (none-ne-some (v, t) e)
front_back b (some p) v t e =
    let q = some-injective (b ∷ p.0, p.1) (v, t) e in
    (p.0, ap (λ r. some (p.0, r)) (ap (λ x. x.1) q), sym (ap (λ x. x.0) q))

pub bytes_split : (n : ℕ) (s v t : List ℕ) → bytes n s ≡ some (v, t) → (s ≡ v ++ t) × (length v ≡ n)
bytes_split zero s v t e = let p = some-injective ([], s) (v, t) e in (λ i. (p i).0 ++ (p i).1, ap (λ x. length x.0) (sym p))
bytes_split (suc n) [] v t e = absurd (none-ne-some (v, t) e)
bytes_split (suc n) (b ∷ s) v t e =
    let x = front_back b (bytes n s) v t e in
    let ih = bytes_split n s x.0 t x.1 in
    (ap (λ r. b ∷ r) ih.0 ∙ ap (λ r. r ++ t) (sym x.2), ap length x.2 ∙ ap suc ih.1)

pub bytes_front : (v u : List ℕ) → bytes (length v) (v ++ u) ≡ some (v, u)
bytes_front [] u = refl
bytes_front (b ∷ v) u = ap (front b) (bytes_front v u)

reading_bytes : (n : ℕ) → Reading (bytes n) (λ v k. (length v ≡ n) × (k ≡ n))
reading_bytes n = record {
  reads = λ s v t e.
      let x = bytes_split n s v t e in
      record {
        taken = v;
        splits = x.0;
        size = (x.1, x.1);
        again = λ u. subst (λ (k : ℕ). bytes k (v ++ u) ≡ some (v, u)) x.1 (bytes_front v u);
      };
}

pub such_bytes : (n : ℕ) (p : List ℕ → Bool) → Reading (bytes n such p) (λ v k. (length v ≡ n) × (k ≡ n))
such_bytes n p = reading_such (reading_bytes n) p

pub reading_byte : Reading byte (λ v k. k ≡ 1)
reading_byte = record { reads = λ s v t e. go s v t e }
  where
    go : (s : List ℕ) (v : ℕ) (t : List ℕ) → byte s ≡ some (v, t) → Read byte (λ v k. k ≡ 1) s v t
    go [] v t e = absurd (none-ne-some (v, t) e)
    go (b ∷ s) v t e =
        let p = some-injective (b, s) (v, t) e in
        record { taken = v ∷ []; splits = λ i. (p i).0 ∷ (p i).1; size = refl; again = λ u. refl }

pub reading_number : (n : ℕ) → Reading (number n) (λ v k. k ≡ n)
reading_number n = let l = reading_then (reading_bytes n) (λ bs. reading_give (big bs) (λ v k. k ≡ 0) refl) (λ v k. k ≡ n) (λ a b k j p q. omega arith) in l

pub reading_one_of : (bs : List ℕ) → Reading (one_of bs) (λ v k. k ≡ 1)
reading_one_of bs = let l = reading_such reading_byte (λ b. any (eqb b) bs) in l

pub reading_name : (lo hi : ℕ) → Reading (name lo hi) (λ v k. k ≡ 1 + length v)
reading_name lo hi =
    let l =
    reading_then (reading_such reading_byte (between lo hi)) (λ n. reading_such (reading_bytes n) (all name_byte)) (λ v k. k ≡ 1 + length v)
    (λ a b k j p q. omega (arith, q.0, q.1)) in
    l

reading_head : (lent : ℕ) → Reading (head_of versions lent) (λ v k. k ≡ 5)
reading_head lent = let l = reading_then (reading_such (reading_number 4) (eqb lent)) (λ w. reading_one_of versions) (λ v k. k ≡ 5) (λ a b k j p q. omega arith) in l

-- ---- behind the date: what is left is read alike, whatever the date was

-- where m gives v, which has P, n gives what g makes of it, and leaves the same
record Alike {A : Type 0} (m n : Layout A) (g : A → A) (P : A → Type 0) : Type 0 where
  gives : (s : List ℕ) (v : A) (t : List ℕ) → m s ≡ some (v, t) → (n s ≡ some (g v, t)) × P v

module _ {A B : Type 0} where
  alike_then : (m : Layout A) {f h : A → Layout B} {g : B → B} {P : B → Type 0} → ((a : A) → Alike (f a) (h a) g P) → Alike (m >>= f) (m >>= h) g P
  alike_then m {f} {h} k = record {
    gives = λ s v t e.
        let x = and_then_some (m s) f e in
        let y = (k x.0.0).gives x.0.1 v t x.2 in
        (ap (λ o. and_then o h) x.1 ∙ y.0, y.1);
  }

alike_give : {A : Type 0} (a b : A) (g : A → A) (P : A → Type 0) → g a ≡ b → P a → Alike (give a) (give b) g P
alike_give {A = A} a b g P e p = record {
  gives = λ s v t h.
      let i = some-injective (a, s) (v, t) h in
      ((λ j. some (sym e j, s)) ∙ (λ j. some (g (i j).0, (i j).1)), subst (λ (x : A). P x) (ap (λ x. x.0) i) p);
}

-- ---- with the date between them

-- four bytes of s are the date; with those of d there, the layout gives what g makes of the value
record Dated {A : Type 0} (m : Layout A) (P : A → ℕ → Type 0) (d : ℕ) (g : A → A) (s : List ℕ) (v : A) (t : List ℕ) : Type 0 where
  ahead : List ℕ
  date : List ℕ
  rest : List ℕ
  splits : s ≡ ahead ++ (date ++ rest)
  place : P v (length ahead)
  four : length date ≡ 4
  again : m (ahead ++ (bytes_of 4 d ++ rest)) ≡ some (g v, t)

record Redates {A : Type 0} (m : Layout A) (P : A → ℕ → Type 0) (d : ℕ) (g : A → A) : Type 0 where
  dates : (s : List ℕ) (v : A) (t : List ℕ) → m s ≡ some (v, t) → Dated m P d g s v t

module _ {A B : Type 0} where
  redates_then : {m : Layout A} {P : A → ℕ → Type 0} {f : A → Layout B} {Q : A → B → ℕ → Type 0} {d : ℕ} {g : B → B} → Reading m P → ((a : A) → Redates (f a) (Q a) d g)
      → (R : B → ℕ → Type 0) → ((a : A) (b : B) (k j : ℕ) → P a k → Q a b j → R b (k + j)) → Redates (m >>= f) R d g
  redates_then {m} {P} {f} {Q} {d} {g} l n R sum = record {
    dates = λ s v t e.
        let x = and_then_some (m s) f e in
        let r : Read m P s x.0.0 x.0.1 = l.reads s x.0.0 x.0.1 x.1 in
        let h : Dated (f x.0.0) (Q x.0.0) d g x.0.1 v t = (n x.0.0).dates x.0.1 v t x.2 in
        record {
          ahead = r.taken ++ h.ahead;
          date = h.date;
          rest = h.rest;
          splits = r.splits ∙ (ap (λ (u : List ℕ). r.taken ++ u) h.splits ∙ sym (append_assoc r.taken h.ahead (h.date ++ h.rest)));
          place = subst (R v) (sym (length-append r.taken h.ahead)) (sum x.0.0 v (length r.taken) (length h.ahead) r.size h.place);
          four = h.four;
          again =
              ap (λ (u : List ℕ). and_then (m u) f) (append_assoc r.taken h.ahead (bytes_of 4 d ++ h.rest))
              ∙ (ap (λ o. and_then o f) (r.again (h.ahead ++ (bytes_of 4 d ++ h.rest))) ∙ h.again);
        };
  }

day_read : (d : ℕ) (t : List ℕ) → is_day d ≡ true → (number 4 such is_day) (bytes_of 4 d ++ t) ≡ some (d, t)
day_read d t e =
    ap (λ (n : ℕ). give_if (is_day n) n t) (number_back 4 d (omega (arith, day_most d e)))
    ∙ ap (λ (b : Bool). give_if b d t) e

redates_date : {B : Type 0} {f : ℕ → Layout B} (d : ℕ) {g : B → B} (P : B → ℕ → Type 0) → is_day d ≡ true → ((date : ℕ) → Alike (f date) (f d) g (λ b. P b 0)) → Redates ((number 4 such is_day) >>= f) P d g
redates_date {f = f} d P day k = record {
  dates = λ s v t e.
      let x = and_then_some ((number 4 such is_day) s) f e in
      let r = (reading_such (reading_number 4) is_day).reads s x.0.0 x.0.1 x.1 in
      let y = (k x.0.0).gives x.0.1 v t x.2 in
      record {
        ahead = [];
        date = r.taken;
        rest = x.0.1;
        splits = r.splits;
        place = y.1;
        four = r.size;
        again = ap (λ o. and_then o f) (day_read d x.0.1 day) ∙ y.0;
      };
}

-- ---- a question

-- a question for the article, with nothing read before it
abbrev Begun : List ℕ → Question → ℕ → Type 0
Begun article q k = (q.article ≡ article) × (k ≡ 0)

module _ (d : ℕ) where
  -- behind the date
  alike_question : (version : ℕ) (article : List ℕ) (sort : ℕ) (currency : List ℕ) (date : ℕ)
      → Alike
      (number 4 such between 1 100_000 >>= λ quantity. byte such between 0 32 >>= λ conditions. times conditions (granted_in version) >>= λ granted. byte such between 0 32 >>= λ count. times count property >>= λ properties.
      give (record {
        article = article;
        sort = sort;
        currency = asked_of currency;
        date = date;
        quantity = quantity;
        granted = granted;
        properties = properties;
      }))
      (number 4 such between 1 100_000 >>= λ quantity. byte such between 0 32 >>= λ conditions. times conditions (granted_in version) >>= λ granted. byte such between 0 32 >>= λ count. times count property >>= λ properties.
      give (record {
        article = article;
        sort = sort;
        currency = asked_of currency;
        date = d;
        quantity = quantity;
        granted = granted;
        properties = properties;
      }))
      (λ q. on q d) (λ q. Begun article q 0)
  unfolding on
  alike_question version article sort currency date =
      alike_then (number 4 such between 1 100_000) (λ quantity.
      alike_then (byte such between 0 32) (λ conditions.
      alike_then (times conditions (granted_in version)) (λ granted.
      alike_then (byte such between 0 32) (λ count.
      alike_then (times count property) (λ properties.
      alike_give (record {
        article = article;
        sort = sort;
        currency = asked_of currency;
        date = date;
        quantity = quantity;
        granted = granted;
        properties = properties;
      })
      (record {
        article = article;
        sort = sort;
        currency = asked_of currency;
        date = d;
        quantity = quantity;
        granted = granted;
        properties = properties;
      }) (λ q. on q d) (λ q. Begun article q 0) refl (refl, refl))))))

  redates_question : is_day d ≡ true → (lent : ℕ) → Redates (question_layout lent) (λ q k. k ≡ date_at q) d (λ q. on q d)
  redates_question day lent =
      let l =
      redates_then (reading_head lent) (λ version.
      redates_then (reading_name 1 40) (λ article.
      redates_then (reading_one_of (sale ∷ purchase ∷ [])) (λ sort.
      redates_then (such_bytes 3 (λ c. capitals c || same c no_currency)) (λ currency.
      redates_date d (Begun article) day (alike_question version article sort currency))
      (λ (q : Question) (k : ℕ). (q.article ≡ article) × (k ≡ 3)) (λ a b k j p q. (q.0, omega (arith, p.1, q.1))))
      (λ (q : Question) (k : ℕ). (q.article ≡ article) × (k ≡ 4)) (λ a b k j p q. (q.0, omega (arith, q.1))))
      (λ (q : Question) (k : ℕ). k ≡ 5 + length q.article) (λ a b k j p q. omega (arith, q.1, ap length q.0)))
      (λ (q : Question) (k : ℕ). k ≡ date_at q) (λ a b k j p q. omega arith) in
      l

-- The question with another day put into its date bytes is accepted, and is the same question on that day.
pub redated_reads : (s : List ℕ) (q : Question) → question_of s ≡ some q → (d : ℕ) → is_day d ≡ true → question_of (redated (date_at q) d s) ≡ some (on q d)
unfolding question_of redated
redated_reads s q e d day =
    let x = (redates_question d day (length s)).dates s q [] (whole_end (question_layout (length s) s) q e) in
    let new : List ℕ = x.ahead ++ (bytes_of 4 d ++ x.rest) in
    let front : take (date_at q) s ≡ x.ahead = ap (take (date_at q)) x.splits ∙ take_at x.ahead (x.date ++ x.rest) (date_at q) x.place in
    let back : drop (date_at q + 4) s ≡ x.rest =
    ap (drop (date_at q + 4)) (x.splits ∙ sym (append_assoc x.ahead x.date x.rest))
    ∙ drop_at (x.ahead ++ x.date) x.rest (date_at q + 4) (length-append x.ahead x.date ∙ omega (arith, x.place, x.four)) in
    let is : take (date_at q) s ++ (bytes_of 4 d ++ drop (date_at q + 4) s) ≡ new = λ i. front i ++ (bytes_of 4 d ++ back i) in
    let size : length new ≡ length s =
    length-append x.ahead (bytes_of 4 d ++ x.rest)
    ∙ omega (arith, x.four, length-append x.date x.rest)
    ∙ sym (ap length x.splits ∙ length-append x.ahead (x.date ++ x.rest)) in
    ap question_of is ∙ (ap (λ (n : ℕ). whole (question_layout n) new) size ∙ ap wholly x.again)
