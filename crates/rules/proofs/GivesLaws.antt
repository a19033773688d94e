-- What every value that a layout gives is sure to have, and with it what an accepted question has.
use Prim.Native.Nat.{ℕ, zero, suc, ◌≤◌}
use mathlib.Core.Path.{◌≡◌, refl, sym, ◌∙◌, ap, subst}
use mathlib.Core.Bool.{Bool, true, false, ◌||◌, cond}
use mathlib.Core.List.{List, [], ◌∷◌}
use mathlib.Core.Option.{Option, some, none, none-ne-some, some-injective}
use native.Mathlib.Omega.{arith}
use lib.Dec.{eqb}
use lib.ListN.{length}
use Rattle.rules.specs.Lists.{same, between, all}
use Rattle.rules.specs.Layout.{Layout, and_then, ◌>>=◌, give, give_if, ◌such◌, front, bytes, byte, times, back, framed, to_end, repeated, whole, wholly}
use Rattle.rules.specs.Bytes.{big, number, name, name_byte, one_of, head_of, capitals}
use Rattle.rules.specs.Days.{is_day}
use Rattle.rules.specs.Book.{sale, purchase}
use Rattle.rules.specs.Question.{Question, no_currency, property, plain_factor, most_factor, factor_in, granted_in, versions, question_body, question_layout, question_of}
use Rattle.rules.proofs.TestLaws.{between_low, between_high}
use Rattle.rules.proofs.ListLaws.{All}

pub record Gives {A : Type 0} (m : Layout A) (P : A → Type 0) : Type 0 where
  pub sure : (s : List ℕ) (v : A) (t : List ℕ) → m s ≡ some (v, t) → P v

module _ {A B : Type 0} where
  pub and_then_lem : (o : Option (A × List ℕ)) (f : A → Layout B) {y : B × List ℕ} → and_then o f ≡ some y → (x : A × List ℕ) × (o ≡ some x) × (f x.0 x.1 ≡ some y)
  and_then_lem none f {y} e = absurd (none-ne-some y e)
  and_then_lem (some x) f e = (x, refl, e)

  -- a field that is sure of P, and then what is sure of Q where P holds
  pub gives_field : (m : Layout A) (f : A → Layout B) {P : A → Type 0} {Q : B → Type 0} → Gives m P → ((a : A) → P a → Gives (f a) Q) → Gives (m >>= f) Q
  gives_field m f h k =
      record {
        sure = λ s v t e. let x = and_then_lem (m s) f e in (k x.0.0 (h.sure s x.0.0 x.0.1 x.1)).sure x.0.1 v t x.2;
      }

module _ {A : Type 0} where
  -- of a field that does not matter
  pub gives_any : (m : Layout A) → Gives m (λ a. Unit {0})
  gives_any m = record { sure = λ s v t e. tt }

  pub gives_value : (a : A) {P : A → Type 0} → P a → Gives (give a) P
  gives_value a {P} p = record { sure = λ s v t e. subst P (ap (λ (x : A × List ℕ). x.0) (some-injective (a, s) (v, t) e)) p }

  pub gives_tested : (b : Bool) (a : A) {P : A → Type 0} → (b ≡ true → P a) → Gives (give_if b a) P
  gives_tested true a p = gives_value a (p refl)
  gives_tested false a p = record { sure = λ s v t e. absurd (none-ne-some (v, t) e) }

  pub gives_if : (p : A → Bool) (a : A) → Gives (give_if (p a) a) (λ x. p x ≡ true)
  gives_if p a = gives_tested (p a) a (λ h. h)

  -- a field with a test passes it
  pub gives_such : (m : Layout A) (p : A → Bool) → Gives (m such p) (λ x. p x ≡ true)
  gives_such m p = gives_field m (λ a. give_if (p a) a) (gives_any m) (λ a t. gives_if p a)

pub gives_times : {A : Type 0} (n : ℕ) (m : Layout A) → Gives (times n m) (λ xs. length xs ≡ n)
gives_times zero m = gives_value [] refl
gives_times (suc n) m =
    gives_field m (λ a. times n m >>= λ rest. give (a ∷ rest)) (gives_any m) λ a t.
    gives_field (times n m) (λ rest. give (a ∷ rest)) (gives_times n m) λ rest e.
    gives_value (a ∷ rest) (ap suc e)

-- and each of them is sure of what one is sure of
pub gives_each : {A : Type 0} (n : ℕ) (m : Layout A) (P : A → Type 0) → Gives m P → Gives (times n m) (All P)
gives_each zero m P h = gives_value [] tt
gives_each (suc n) m P h =
    gives_field m (λ a. times n m >>= λ rest. give (a ∷ rest)) h λ a p.
    gives_field (times n m) (λ rest. give (a ∷ rest)) (gives_each n m P h) λ rest q.
    gives_value (a ∷ rest) {P = All P} (p, q)

pub gives_both : {A : Type 0} (m : Layout A) {P Q : A → Type 0} → Gives m P → Gives m Q → Gives m (λ a. P a × Q a)
gives_both m h k = record { sure = λ s v t e. (h.sure s v t e, k.sure s v t e) }

-- n bytes are n
pub gives_bytes : (n : ℕ) → Gives (bytes n) (λ v. length v ≡ n)
gives_bytes zero = gives_value [] refl
gives_bytes (suc n) = record { sure = λ s v t e. go (gives_bytes n) s v t e }
  where
    more : (b : ℕ) (o : Option (List ℕ × List ℕ)) → ((v t : List ℕ) → o ≡ some (v, t) → length v ≡ n) → (v t : List ℕ) → front b o ≡ some (v, t) → length v ≡ suc n
    more b none h v t e = absurd (none-ne-some (v, t) e)
    more b (some p) h v t e = sym (ap (λ (x : List ℕ × List ℕ). length x.0) (some-injective (b ∷ p.0, p.1) (v, t) e)) ∙ ap suc (h p.0 p.1 refl)

    go : Gives (bytes n) (λ v. length v ≡ n) → (s v t : List ℕ) → bytes (suc n) s ≡ some (v, t) → length v ≡ suc n
    go g [] v t e = absurd (none-ne-some (v, t) e)
    go g (b ∷ s) v t e = more b (bytes n s) (g.sure s) v t e

module _ {A : Type 0} (m : Layout A) {P : A → Type 0} where
  -- bytes in a frame that are one value to the last
  pub gives_framed : (n : ℕ) → ((s : List ℕ) (a : A) → whole m s ≡ some a → P a) → Gives (framed n m) P
  gives_framed n h = gives_field (bytes n) (λ s. back (whole m s)) (gives_any (bytes n)) λ s _. go (whole m s) (h s)
    where
      go : (o : Option A) → ((a : A) → o ≡ some a → P a) → Gives (back o) P
      go none k = record { sure = λ s v t e. absurd (none-ne-some (v, t) e) }
      go (some a) k = gives_value a (k a refl)

  module _ (g : Gives m P) where
    none_left : (v : List A) (t : List ℕ) → ◌≡◌ {A = Option (List A × List ℕ)} (some ([], [])) (some (v, t)) → All P v
    none_left v t e = subst (λ (x : List A × List ℕ). All P x.0) (some-injective ([], []) (v, t) e) tt

    each_to_end : (n : ℕ) (s : List ℕ) (v : List A) (t : List ℕ) → to_end n m s ≡ some (v, t) → All P v
    each_to_end zero [] v t e = none_left v t e
    each_to_end zero (b ∷ s) v t e = absurd (none-ne-some (v, t) e)
    each_to_end (suc n) [] v t e = none_left v t e
    each_to_end (suc n) (b ∷ s) v t e =
        (gives_field m (λ a. to_end n m >>= λ rest. give (a ∷ rest)) g
        (λ a p. gives_field (to_end n m) (λ rest. give (a ∷ rest)) (record { sure = each_to_end n }) (λ rest hs. gives_value (a ∷ rest) {P = All P} (p, hs)))).sure (b ∷ s) v t e

    -- what one value is sure of, each of those up to the end is
    pub gives_repeated : Gives (repeated m) (All P)
    gives_repeated = record { sure = λ s. each_to_end (length s) s }

-- a name is as long as it may be
pub gives_name : (lo hi : ℕ) → Gives (name lo hi) (λ v. between lo hi (length v) ≡ true)
gives_name lo hi =
    gives_field (byte such between lo hi) (λ n. bytes n such all name_byte) (gives_such byte (between lo hi)) λ n h.
    gives_field (bytes n) (λ v. give_if (all name_byte v) v) (gives_bytes n) λ v e.
    gives_tested (all name_byte v) v (λ _. subst (λ (k : ℕ). between lo hi k ≡ true) (sym e) h)

pub whole_gives : {A : Type 0} {m : Layout A} {P : A → Type 0} → Gives m P → (s : List ℕ) (a : A) → whole m s ≡ some a → P a
whole_gives {m} {P} g s a e = go (m s) refl e
  where
    go : (o : Option (_ × List ℕ)) → m s ≡ o → wholly o ≡ some a → P a
    go none i e = absurd (none-ne-some a e)
    go (some (x, [])) i e = g.sure s a [] (i ∙ ap (λ (y : _). some (y, [])) (some-injective x a e))
    go (some (x, b ∷ t)) i e = absurd (none-ne-some a e)

-- ---- factors

-- no factor is over 10,000, and in version 1 all are 1,000
pub gives_factor : (version : ℕ) → Gives (factor_in version) (λ f. f ≤ most_factor)
gives_factor version = go (eqb version 2)
  where
    go : (b : Bool) → Gives (cond b (number 2 such between 0 most_factor) (give plain_factor)) (λ f. f ≤ most_factor)
    go true =
        gives_field (number 2) (λ f. give_if (between 0 most_factor f) f) (gives_any (number 2)) λ f _.
        gives_tested (between 0 most_factor f) f (between_high 0 most_factor f)
    go false = gives_value plain_factor (omega arith)

pub gives_granted : (version : ℕ) {P : ℕ → Type 0} → Gives (factor_in version) P → Gives (granted_in version) (λ g. P g.factor)
gives_granted version h =
    gives_field (name 1 20) (λ n. factor_in version >>= λ f. give (record { name = n; factor = f })) (gives_any (name 1 20)) λ n _.
    gives_field (factor_in version) (λ f. give (record { name = n; factor = f })) h λ f p.
    gives_value (record { name = n; factor = f }) p

-- ---- a question

pub record Sound (q : Question) : Type 0 where
  pub date : is_day q.date ≡ true
  pub quantity₁ : 1 ≤ q.quantity
  pub quantity₂ : q.quantity ≤ 100000
  pub granted : length q.granted ≤ 32
  pub factors : All (λ g. g.factor ≤ most_factor) q.granted
  pub properties : length q.properties ≤ 32

gives_body : (version : ℕ) → Gives (question_body version) Sound
gives_body version =
    gives_field (name 1 40) _ (gives_any (name 1 40)) λ article _.
    gives_field (one_of (sale ∷ purchase ∷ [])) _ (gives_any (one_of (sale ∷ purchase ∷ []))) λ sort _.
    gives_field (bytes 3 such λ c. capitals c || same c no_currency) _ (gives_any (bytes 3 such λ c. capitals c || same c no_currency)) λ currency _.
    gives_field (number 4 such is_day) _ (gives_such (number 4) is_day) λ date d.
    gives_field (number 4 such between 1 100_000) _ (gives_such (number 4) (between 1 100_000)) λ quantity h.
    gives_field (byte such between 0 32) _ (gives_such byte (between 0 32)) λ conditions c.
    gives_field (times conditions (granted_in version)) _
    (gives_both (times conditions (granted_in version)) (gives_times conditions (granted_in version)) (gives_each conditions (granted_in version) _ (gives_granted version (gives_factor version)))) λ granted g.
    gives_field (byte such between 0 32) _ (gives_such byte (between 0 32)) λ count n.
    gives_field (times count property) _ (gives_times count property) λ properties p.
    gives_value _
    (record {
      date = d;
      quantity₁ = between_low 1 100_000 quantity h;
      quantity₂ = between_high 1 100_000 quantity h;
      granted = subst (λ (k : ℕ). k ≤ 32) (sym g.0) (between_high 0 32 conditions c);
      factors = g.1;
      properties = subst (λ (k : ℕ). k ≤ 32) (sym p) (between_high 0 32 count n);
    })

gives_question : (lent : ℕ) → Gives (question_layout lent) Sound
gives_question lent = gives_field (head_of versions lent) question_body (gives_any (head_of versions lent)) λ version _. gives_body version

-- An accepted question asks for a day, for 1 to 100,000 pieces, and has at most 32 granted names, with factors up to 10,000, and 32 properties.
pub question_sound : (s : List ℕ) (q : Question) → question_of s ≡ some q → Sound q
unfolding question_of
question_sound s q e = whole_gives (gives_question (length s)) s q e

-- ---- a question of version 1

gives_once : Gives (question_body 1) (λ q. All (λ g. g.factor ≡ plain_factor) q.granted)
gives_once =
    gives_field (name 1 40) _ (gives_any (name 1 40)) λ article _.
    gives_field (one_of (sale ∷ purchase ∷ [])) _ (gives_any (one_of (sale ∷ purchase ∷ []))) λ sort _.
    gives_field (bytes 3 such λ c. capitals c || same c no_currency) _ (gives_any (bytes 3 such λ c. capitals c || same c no_currency)) λ currency _.
    gives_field (number 4 such is_day) _ (gives_any (number 4 such is_day)) λ date _.
    gives_field (number 4 such between 1 100_000) _ (gives_any (number 4 such between 1 100_000)) λ quantity _.
    gives_field (byte such between 0 32) _ (gives_any (byte such between 0 32)) λ conditions _.
    gives_field (times conditions (granted_in 1)) _ (gives_each conditions (granted_in 1) _ (gives_granted 1 (gives_value plain_factor refl))) λ granted g.
    gives_field (byte such between 0 32) _ (gives_any (byte such between 0 32)) λ count _.
    gives_field (times count property) _ (gives_any (times count property)) λ properties _.
    gives_value _ g

-- the version is the fifth byte
pub version_1 : (a b c d : ℕ) (t : List ℕ) (q : Question) → question_of (a ∷ b ∷ c ∷ d ∷ 1 ∷ t) ≡ some q → All (λ g. g.factor ≡ plain_factor) q.granted
unfolding question_of
version_1 a b c d t q e = go (eqb (length (a ∷ b ∷ c ∷ d ∷ 1 ∷ t)) (big (a ∷ b ∷ c ∷ d ∷ []))) (big (a ∷ b ∷ c ∷ d ∷ [])) e
  where
    go : (x : Bool) (n : ℕ) → wholly (and_then ((give_if x n >>= λ _. one_of versions) (1 ∷ t)) question_body) ≡ some q → All (λ g. g.factor ≡ plain_factor) q.granted
    go true n e = whole_gives gives_once t q e
    go false n e = absurd (none-ne-some q e)
