-- Layouts that take a certain number of bytes: there are so many, and what is left is what stands behind them.
use Prim.Native.Nat.{ℕ, zero, suc, ◌+◌, ◌≤◌}
use mathlib.Core.Path.{◌≡◌, refl, sym, ◌∙◌, ap, subst}
use mathlib.Core.Bool.{Bool, true, false}
use mathlib.Core.List.{List, [], ◌∷◌}
use mathlib.Core.Option.{Option, some, none, none-ne-some, some-injective}
use native.Mathlib.Omega.{arith}
use lib.Dec.{eqb}
use lib.ListN.{length, take, drop, length-drop}
use lib.Seq.{drop-drop}
use Rattle.rules.specs.Lists.{any}
use Rattle.rules.specs.Layout.{Layout, ◌>>=◌, give, give_if, ◌such◌, front, bytes, byte, back, framed, whole, wholly}
use Rattle.rules.specs.Bytes.{number, big, one_of, head_of, head}
use Rattle.rules.proofs.GivesLaws.{and_then_lem}

pub record Takes {A : Type 0} (m : Layout A) (k : ℕ) : Type 0 where
  pub enough : (s : List ℕ) (v : A) (t : List ℕ) → m s ≡ some (v, t) → k ≤ length s
  pub leaves : (s : List ℕ) (v : A) (t : List ℕ) → m s ≡ some (v, t) → t ≡ drop k s

-- ---- n bytes

-- what is read are the first n
pub record FirstBytes (n : ℕ) (s v t : List ℕ) : Type 0 where
  pub many : n ≤ length s
  pub are : v ≡ take n s
  pub rest : t ≡ drop n s

pub bytes_first : (n : ℕ) (s v t : List ℕ) → bytes n s ≡ some (v, t) → FirstBytes n s v t
bytes_first zero s v t e =
    let i = some-injective ([], s) (v, t) e in
    record {
      many = omega arith;
      are = sym (ap (λ (x : List ℕ × List ℕ). x.0) i);
      rest = sym (ap (λ (x : List ℕ × List ℕ). x.1) i);
    }
bytes_first (suc n) [] v t e = absurd (none-ne-some (v, t) e)
bytes_first (suc n) (b ∷ s) v t e = go (bytes n s) (bytes_first n s) e
  where
    go : (o : Option (List ℕ × List ℕ)) → ((w u : List ℕ) → o ≡ some (w, u) → FirstBytes n s w u)
        → front b o ≡ some (v, t) → FirstBytes (suc n) (b ∷ s) v t
    go none h e = absurd (none-ne-some (v, t) e)
    go (some x) h e =
        let i = some-injective (b ∷ x.0, x.1) (v, t) e in
        let f = h x.0 x.1 refl in
        let m : n ≤ length s = f.many in
        record {
          many = omega arith;
          are = sym (ap (λ (y : List ℕ × List ℕ). y.0) i) ∙ ap (λ (r : List ℕ). b ∷ r) f.are;
          rest = sym (ap (λ (y : List ℕ × List ℕ). y.1) i) ∙ f.rest;
        }

pub takes_bytes : (n : ℕ) → Takes (bytes n) n
takes_bytes n = record { enough = λ s v t e. (bytes_first n s v t e).many; leaves = λ s v t e. (bytes_first n s v t e).rest }

-- ---- one field behind the other

module _ {A : Type 0} where
  pub takes_value : (a : A) → Takes (give a) 0
  takes_value a =
      record {
        enough = λ s v t e. omega arith;
        leaves = λ s v t e. sym (ap (λ (x : A × List ℕ). x.1) (some-injective (a, s) (v, t) e));
      }

  takes_none : (k : ℕ) → Takes {A = A} (λ s. none) k
  takes_none k = record { enough = λ s v t e. absurd (none-ne-some (v, t) e); leaves = λ s v t e. absurd (none-ne-some (v, t) e) }

  pub takes_if : (b : Bool) (a : A) → Takes (give_if b a) 0
  takes_if true a = takes_value a
  takes_if false a = takes_none 0

  pub takes_back : (o : Option A) → Takes (back o) 0
  takes_back none = takes_none 0
  takes_back (some a) = takes_value a

pub back_is : {A : Type 0} (o : Option A) (s : List ℕ) (a : A) (t : List ℕ) → back o s ≡ some (a, t) → (o ≡ some a) × (t ≡ s)
back_is none s a t e = absurd (none-ne-some (a, t) e)
back_is {A} (some x) s a t e =
    let i = some-injective (x, s) (a, t) e in
    (ap (λ (y : A × List ℕ). some y.0) i, sym (ap (λ (y : A × List ℕ). y.1) i))

module _ {A B : Type 0} where
  pub takes_field : (m : Layout A) (f : A → Layout B) {j k : ℕ} → Takes m j → ((a : A) → Takes (f a) k) → Takes (m >>= f) (j + k)
  takes_field m f {j} {k} h g = record { enough = enough; leaves = leaves }
    where
      enough : (s : List ℕ) (v : B) (t : List ℕ) → (m >>= f) s ≡ some (v, t) → j + k ≤ length s
      enough s v t e =
          let x = and_then_lem (m s) f e in
          let a : j ≤ length s = h.enough s x.0.0 x.0.1 x.1 in
          let b : k ≤ length x.0.1 = (g x.0.0).enough x.0.1 v t x.2 in
          let c : length x.0.1 ≡ length (drop j s) = ap length (h.leaves s x.0.0 x.0.1 x.1) in
          omega (arith, length-drop j s)

      leaves : (s : List ℕ) (v : B) (t : List ℕ) → (m >>= f) s ≡ some (v, t) → t ≡ drop (j + k) s
      leaves s v t e =
          let x = and_then_lem (m s) f e in
          (g x.0.0).leaves x.0.1 v t x.2 ∙ ap (drop k) (h.leaves s x.0.0 x.0.1 x.1) ∙ drop-drop k j s

pub takes_such : {A : Type 0} (m : Layout A) (p : A → Bool) {k : ℕ} → Takes m k → Takes (m such p) k
takes_such m p {k} h = subst (Takes (m such p)) (omega arith) (takes_field m (λ a. give_if (p a) a) h (λ a. takes_if (p a) a))

pub takes_byte : Takes byte 1
takes_byte = record { enough = enough; leaves = leaves }
  where
    enough : (s : List ℕ) (v : ℕ) (t : List ℕ) → byte s ≡ some (v, t) → 1 ≤ length s
    enough [] v t e = absurd (none-ne-some (v, t) e)
    enough (b ∷ s) v t e = omega arith

    leaves : (s : List ℕ) (v : ℕ) (t : List ℕ) → byte s ≡ some (v, t) → t ≡ drop 1 s
    leaves [] v t e = absurd (none-ne-some (v, t) e)
    leaves (b ∷ s) v t e = sym (ap (λ (x : ℕ × List ℕ). x.1) (some-injective (b, s) (v, t) e))

pub takes_number : (k : ℕ) → Takes (number k) k
takes_number k = subst (Takes (number k)) (omega arith) (takes_field (bytes k) (λ bs. give (big bs)) (takes_bytes k) (λ bs. takes_value (big bs)))

pub takes_framed : {A : Type 0} (n : ℕ) (m : Layout A) → Takes (framed n m) n
takes_framed n m =
    subst (Takes (framed n m)) (omega arith) (takes_field (bytes n) (λ s. back (whole m s)) (takes_bytes n) (λ s. takes_back (whole m s)))

-- the head of a layout: four bytes of length and one of version
pub takes_head_of : (versions : List ℕ) (lent : ℕ) → Takes (head_of versions lent) 5
takes_head_of versions lent =
    takes_field (number 4 such eqb lent) (λ _. one_of versions)
    (takes_such (number 4) (eqb lent) (takes_number 4)) (λ _. takes_such byte (λ b. any (eqb b) versions) takes_byte)

pub takes_head : (lent : ℕ) → Takes (head lent) 5
takes_head lent = takes_head_of (1 ∷ []) lent

-- ---- with nothing behind it

pub whole_end : {A : Type 0} (o : Option (A × List ℕ)) (a : A) → wholly o ≡ some a → o ≡ some (a, [])
whole_end none a e = absurd (none-ne-some a e)
whole_end (some (x, [])) a e = ap (λ (k : _). some (k, [])) (some-injective x a e)
whole_end (some (x, b ∷ t)) a e = absurd (none-ne-some a e)
