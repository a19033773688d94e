-- Layouts at a place: one law for each word of the layouts.
use Prim.Native.Nat.{ℕ, zero, suc, ◌+◌, ◌*◌, ◌-◌, ◌≤◌, ◌<◌}
use mathlib.Core.Path.{◌≡◌, refl, sym, ◌∙◌, ap, subst}
use mathlib.Core.Bool.{Bool, true, false, ◌&&◌, and-true, false≢true}
use mathlib.Core.List.{List, [], ◌∷◌, map}
use mathlib.Core.Option.{Option, some, none, none-ne-some, some-injective}
use native.Mathlib.Omega.{arith}
use native.Mathlib.Numerals.{add-one}
use native.Mathlib.Nat.{le_of_suc-le-suc, not-suc-le-zero}
use lib.Dec.{eqb}
use lib.ListN.{length, take, drop, get_or, length-drop, drop_of_length-le}
use lib.Seq.{drop-cons, drop-drop}
use Rattle.rules.specs.Lists.{any, all, is_some}
use Rattle.rules.specs.Layout.{Layout, and_then, ◌>>=◌, give, give_if, ◌such◌, bytes, byte, front, times, whole, wholly}
use Rattle.rules.specs.Bytes.{number, signed, one_of, big, signed_of}
use Rattle.layout.specs.Reads.{only, when, Reads, Sized, positions_at}
use Rattle.layout.specs.Ensures.{Accepts}

-- ---- the next n bytes

pub bytes_some : (n : ℕ) (s : List ℕ) → n ≤ length s → bytes n s ≡ some (take n s, drop n s)
bytes_some zero s h = refl
bytes_some (suc n) [] h = absurd (not-suc-le-zero h)
bytes_some (suc n) (b ∷ s) h = ap (front b) (bytes_some n s (le_of_suc-le-suc h))

pub bytes_none : (n : ℕ) (s : List ℕ) → length s < n → bytes n s ≡ none
bytes_none zero s h = absurd (not-suc-le-zero h)
bytes_none (suc n) [] h = refl
bytes_none (suc n) (b ∷ s) h = ap (front b) (bytes_none n s (le_of_suc-le-suc h))

-- a field and then the rest: both were read
pub and_then_some : {A B : Type 0} (o : Option (A × List ℕ)) (f : A → Layout B) {y : B × List ℕ} → and_then o f ≡ some y → (x : A × List ℕ) × (o ≡ some x) × (f x.0 x.1 ≡ some y)
and_then_some none f {y} e = absurd (none-ne-some y e)
and_then_some (some x) f e = (x, refl, e)

front_some : (b : ℕ) (o : Option (List ℕ × List ℕ)) {y : List ℕ × List ℕ} → front b o ≡ some y → (x : List ℕ × List ℕ) × (o ≡ some x) × (x.1 ≡ y.1)
front_some b none {y} e = absurd (none-ne-some y e)
front_some b (some x) {y} e = (x, refl, ap (λ p. p.1) (some-injective (b ∷ x.0, x.1) y e))

pub bytes_left : (n : ℕ) (s : List ℕ) {y : List ℕ × List ℕ} → bytes n s ≡ some y → length s ≡ n + length y.1
bytes_left zero s {y} e = ap (λ p. length p.1) (some-injective ([], s) y e) ∙ omega arith
bytes_left (suc n) [] {y} e = absurd (none-ne-some y e)
bytes_left (suc n) (b ∷ s) {y} e =
    let x = front_some b (bytes n s) e in
    let h : length s ≡ n + length x.0.1 = bytes_left n s x.1 in
    let g : length x.0.1 ≡ length y.1 = ap length x.2 in
    omega arith

-- ---- one field after the other

module _ {A B : Type 0} (m : Layout A) (f : A → Layout B) {s : List ℕ} {at next : ℕ} {ok : Bool} {v : A} (p : Reads m s at ok v next) where
  pub then_reads : {end : ℕ} {ok' : Bool} {w : B} → Reads (f v) s next ok' w end → Reads (m >>= f) s at (ok && ok') w end
  then_reads {end} {ok'} {w} q = record { is = ap (λ o. and_then o f) p.is ∙ go ok q.is }
    where
      go : (ok : Bool) → f v (drop next s) ≡ only ok' (w, drop end s) → and_then (only ok (v, drop next s)) f ≡ only (ok && ok') (w, drop end s)
      go true h = h
      go false h = refl

  -- a broken field breaks what follows
  pub then_broken : ok ≡ false → (m >>= f) (drop at s) ≡ none
  then_broken h = ap (λ o. and_then o f) p.is ∙ ap (λ (b : Bool). and_then (only b (v, drop next s)) f) h

  -- a good one leaves the rest to be read
  pub then_rest : ok ≡ true → (m >>= f) (drop at s) ≡ f v (drop next s)
  then_rest h = ap (λ o. and_then o f) p.is ∙ ap (λ (b : Bool). and_then (only b (v, drop next s)) f) h

  -- either way
  pub then_when : {o : Option (B × List ℕ)} → f v (drop next s) ≡ o → (m >>= f) (drop at s) ≡ when ok o
  then_when {o} h = ap (λ o. and_then o f) p.is ∙ go ok
    where
      go : (ok : Bool) → and_then (only ok (v, drop next s)) f ≡ when ok o
      go true = h
      go false = refl

pub reads_as : {A : Type 0} {m : Layout A} {s : List ℕ} {at next next' : ℕ} {ok ok' : Bool} {v : A} → Reads m s at ok v next → ok ≡ ok' → next ≡ next' → Reads m s at ok' v next'
reads_as {m} {s} {at} {next} {ok'} {v} p e f = subst (Reads m s at ok' v) f (subst (λ (o : Bool). Reads m s at o v next) e p)

pub give_reads : {A : Type 0} {a : A} {s : List ℕ} {at : ℕ} → Reads (give a) s at true a at
give_reads = record { is = refl }

module _ {A : Type 0} {s : List ℕ} {at : ℕ} where
  pub if_reads : (b : Bool) (a : A) → Reads (give_if b a) s at b a at
  if_reads true a = record { is = refl }
  if_reads false a = record { is = refl }

pub such_reads : {A : Type 0} (m : Layout A) (t : A → Bool) {s : List ℕ} {at next : ℕ} {ok : Bool} {v : A} → Reads m s at ok v next → Reads (m such t) s at (ok && t v) v next
such_reads m t {v} p = then_reads m (λ a. give_if (t a) a) p (if_reads (t v) v)

-- ---- bytes and numbers: at a place, and k bytes behind a place p

module _ (s : List ℕ) (at : ℕ) where
  pub byte_at : at < length s → Reads byte s at true (get_or s at 0) (at + 1)
  byte_at h = record { is = ap byte (drop-cons s at 0 h) ∙ ap (λ n. some (get_or s at 0, drop n s)) (sym (add-one at)) }

  pub bytes_at : (n : ℕ) → at + n ≤ length s → Reads (bytes n) s at true (take n (drop at s)) (at + n)
  bytes_at n h = record { is = bytes_some n (drop at s) (simp length-drop (omega arith)) ∙ ap (λ t. some (take n (drop at s), t)) (drop-drop n at s) }

module _ (s : List ℕ) (p : ℕ) where
  pub byte_reads : (k : ℕ) → p + k < length s → Reads byte s (p + k) true (get_or s (p + k) 0) (p + (k + 1))
  byte_reads k h = subst (Reads byte s (p + k) true (get_or s (p + k) 0)) (omega arith) (byte_at s (p + k) h)

  pub bytes_reads : (n k : ℕ) → p + (k + n) ≤ length s → Reads (bytes n) s (p + k) true (take n (drop (p + k) s)) (p + (k + n))
  bytes_reads n k h = subst (Reads (bytes n) s (p + k) true (take n (drop (p + k) s))) (omega arith) (bytes_at s (p + k) n (omega arith))

  pub number_reads : (n k : ℕ) → p + (k + n) ≤ length s → Reads (number n) s (p + k) true (big (take n (drop (p + k) s))) (p + (k + n))
  number_reads n k h = then_reads _ _ (bytes_reads n k h) give_reads

  pub signed_reads : (n k : ℕ) → p + (k + n) ≤ length s → Reads (signed n) s (p + k) true (signed_of n (big (take n (drop (p + k) s)))) (p + (k + n))
  signed_reads n k h = then_reads _ _ (number_reads n k h) give_reads

  pub one_of_reads : (bs : List ℕ) (k : ℕ) → p + k < length s → Reads (one_of bs) s (p + k) (any (eqb (get_or s (p + k) 0)) bs) (get_or s (p + k) 0) (p + (k + 1))
  one_of_reads bs k h = such_reads byte (λ b. any (eqb b) bs) (byte_reads k h)

module _ (s : List ℕ) (at : ℕ) where
  pub number_at_lem : (n : ℕ) → at + n ≤ length s → Reads (number n) s at true (big (take n (drop at s))) (at + n)
  number_at_lem n h = then_reads _ _ (bytes_at s at n h) give_reads

  pub one_of_at : (bs : List ℕ) → at < length s → Reads (one_of bs) s at (any (eqb (get_or s at 0)) bs) (get_or s at 0) (at + 1)
  one_of_at bs h = such_reads byte (λ b. any (eqb b) bs) (byte_at s at h)

-- so many bytes from a place on, by where they end
pub part_is : (s : List ℕ) (at n : ℕ) → take (at + n - at) (drop at s) ≡ take n (drop at s)
part_is s at n = let e : at + n - at ≡ n = omega arith in rw e

-- ---- what is cut off

module _ (s : List ℕ) (at : ℕ) where
  pub byte_cut : length s ≤ at → Reads byte s at false 0 0
  byte_cut h = record { is = ap byte (drop_of_length-le s h) }

  pub bytes_cut : (n : ℕ) → at ≤ length s → length s < at + n → Reads (bytes n) s at false [] 0
  bytes_cut n g h = record { is = bytes_none n (drop at s) (simp length-drop (omega arith)) }

  pub number_cut : (n : ℕ) → at ≤ length s → length s < at + n → Reads (number n) s at false (big []) 0
  number_cut n g h = then_reads _ _ (bytes_cut n g h) give_reads

  pub one_of_cut : (bs : List ℕ) → length s ≤ at → Reads (one_of bs) s at false 0 0
  one_of_cut bs h = such_reads byte (λ b. any (eqb b) bs) (byte_cut h)

-- ---- nothing behind

module _ {A : Type 0} (m : Layout A) {s : List ℕ} {at next : ℕ} {ok : Bool} {v : A} (p : Reads m s at ok v next) where
  pub whole_is : length s ≤ next → whole m (drop at s) ≡ only ok v
  whole_is h = ap wholly (p.is ∙ ap (λ t. only ok (v, t)) (drop_of_length-le s h)) ∙ go ok
    where
      go : (ok : Bool) → wholly (only ok (v, [])) ≡ only ok v
      go true = refl
      go false = refl

pub only_some : {A : Type 0} (ok : Bool) (v : A) → is_some (only ok v) ≡ ok
only_some true v = refl
only_some false v = refl

module _ {A : Type 0} (m : Layout A) {s : List ℕ} {at next : ℕ} {ok : Bool} {v : A} (p : Reads m s at ok v next) (h : length s ≤ next) where
  -- whether the bytes are a value: the tests of its fields, or what the code made of them
  pub body_is : Accepts (whole m (drop at s)) ok
  body_is = record { is = ap is_some (whole_is m p h) ∙ only_some ok v }

  pub body_as : {r : Bool} → ok ≡ r → Accepts (whole m (drop at s)) r
  body_as e = record { is = body_is.is ∙ e }

  -- and which, where they are one
  pub accepted_is : is_some (whole m (drop at s)) ≡ true → whole m (drop at s) ≡ some v
  accepted_is k = go ok (whole_is m p h)
    where
      go : (ok : Bool) → whole m (drop at s) ≡ only ok v → whole m (drop at s) ≡ some v
      go true e = e
      go false e = absurd (false≢true (sym (ap is_some e) ∙ k))

pub not_both : {A : Type 0} (o : Option A) → is_some o ≡ true → Accepts o false → ⊥
not_both o h p = false≢true (sym p.is ∙ h)

-- ---- layouts of one size

pub sized_give : {A : Type 0} {a : A} → Sized (give a) 0
sized_give = record { takes = λ s v t e. ap (λ p. length p.1) (some-injective _ _ e) ∙ omega arith }

pub sized_if : {A : Type 0} (b : Bool) (a : A) → Sized (give_if b a) 0
sized_if true a = sized_give
sized_if false a = record { takes = λ s v t e. absurd (none-ne-some _ e) }

pub sized_then : {A B : Type 0} (m : Layout A) (f : A → Layout B) {n k : ℕ} → Sized m n → ((v : A) → Sized (f v) k) → Sized (m >>= f) (n + k)
sized_then m f {n} {k} p q = record { takes = takes }
  where
    takes : (s : List ℕ) (w : _) (t : List ℕ) → (m >>= f) s ≡ some (w, t) → length s ≡ n + k + length t
    takes s w t e =
        let x = and_then_some (m s) f e in
        let g : length s ≡ n + length x.0.1 = p.takes s x.0.0 x.0.1 x.1 in
        let h : length x.0.1 ≡ k + length t = (q x.0.0).takes x.0.1 w t x.2 in
        omega arith

pub sized_such : {A : Type 0} (m : Layout A) (t : A → Bool) {n : ℕ} → Sized m n → Sized (m such t) n
sized_such m t {n} p = subst (Sized (m such t)) (omega arith) (sized_then m (λ a. give_if (t a) a) p (λ v. sized_if (t v) v))

pub sized_bytes : (n : ℕ) → Sized (bytes n) n
sized_bytes n = record { takes = λ s v t e. bytes_left n s e }

pub sized_byte : Sized byte 1
sized_byte = record { takes = takes }
  where
    takes : (s : List ℕ) (v : ℕ) (t : List ℕ) → byte s ≡ some (v, t) → length s ≡ 1 + length t
    takes [] v t e = absurd (none-ne-some _ e)
    takes (b ∷ s) v t e =
        let h : length s ≡ length t = ap (λ p. length p.1) (some-injective _ _ e) in
        omega arith

pub sized_number : (n : ℕ) → Sized (number n) n
sized_number n = subst (Sized (number n)) (omega arith) (sized_then (bytes n) (λ bs. give (big bs)) (sized_bytes n) (λ v. sized_give))

pub sized_signed : (n : ℕ) → Sized (signed n) n
sized_signed n = subst (Sized (signed n)) (omega arith) (sized_then (number n) (λ k. give (signed_of n k)) (sized_number n) (λ v. sized_give))

pub sized_one_of : (bs : List ℕ) → Sized (one_of bs) 1
sized_one_of bs = sized_such byte (λ b. any (eqb b) bs) sized_byte

-- more or fewer bytes are not one value
pub sized_whole : {A : Type 0} (m : Layout A) {n : ℕ} → Sized m n → (s : List ℕ) → (length s ≡ n → ⊥) → whole m s ≡ none
sized_whole m {n} p s h = go (m s) refl
  where
    go : (o : Option (_ × List ℕ)) → m s ≡ o → wholly o ≡ none
    go none e = refl
    go (some x) e = left x.0 x.1 e
      where
        left : (v : _) (t : List ℕ) → m s ≡ some (v, t) → wholly (some (v, t)) ≡ none
        left v [] e = absurd (h (p.takes s v [] e ∙ omega arith))
        left v (b ∷ t) e = refl

pub sized_times : {A : Type 0} (m : Layout A) {k : ℕ} → Sized m k → (n : ℕ) → Sized (times n m) (n * k)
sized_times m h zero = subst (Sized (times 0 m)) (omega arith) sized_give
sized_times m {k} h (suc n) = subst (Sized (times (suc n) m)) (omega arith) (sized_then _ _ h λ a. sized_then _ _ (sized_times m h n) λ rest. sized_give)

pub not_sized : {A : Type 0} (m : Layout A) {n : ℕ} → Sized m n → (s : List ℕ) (at : ℕ) → (length s - at ≡ n → ⊥) → whole m (drop at s) ≡ none
not_sized m p s at h = sized_whole m p (drop at s) (rw length-drop h)

-- ---- n bytes one by one, and n values of one layout, w bytes each, from k bytes behind p on

pub taken_are : (s : List ℕ) (p n k : ℕ) → p + (k + n) ≤ length s → take n (drop (p + k) s) ≡ map (λ at. get_or s at 0) (positions_at p 1 k n)
taken_are s p zero k h = refl
taken_are s p (suc n) k h =
    let e : suc (p + k) ≡ p + (k + 1) = omega arith in
    ap (take (suc n)) (drop-cons s (p + k) 0 (omega arith)) ∙ ap (λ t. get_or s (p + k) 0 ∷ t) (rw e (taken_are s p n (k + 1) (omega arith)))

module _ {A : Type 0} (m : Layout A) (s : List ℕ) (p w : ℕ) (ok : ℕ → Bool) (v : ℕ → A) (each : (k : ℕ) → p + (k + w) ≤ length s → Reads m s (p + k) (ok (p + k)) (v (p + k)) (p + (k + w))) where
  pub times_reads : (n k : ℕ) → p + (k + n * w) ≤ length s → Reads (times n m) s (p + k) (all ok (positions_at p w k n)) (map v (positions_at p w k n)) (p + (k + n * w))
  times_reads zero k h = reads_as give_reads refl (omega arith)
  times_reads (suc n) k h = reads_as (then_reads _ _ (each k (omega arith)) (then_reads _ _ (times_reads n (k + w) (omega arith)) give_reads)) (simp and-true) (omega arith)
