-- The digits of a number: how many they are, and that they are stored from the last to the first.
use Prim.Native.Nat.{ℕ, zero, suc, ◌+◌, ◌*◌, ◌-◌, ◌/◌, ◌%◌, ◌^◌, ◌≤◌, ◌<◌}
use mathlib.Core.Path.{◌≡◌, refl, sym, ◌∙◌, ap, subst}
use mathlib.Core.Bool.{Bool, true, false}
use mathlib.Core.List.{List, [], ◌∷◌, ◌++◌, append_assoc, append-nil}
use mathlib.Core.Logic.{◌⊎◌, inl, inr}
use native.Mathlib.Omega.{arith}
use native.Mathlib.Nat.{pow-succ', suc-add, one-le-pow}
use lib.Dec.{ltb}
use lib.ListN.{length, set, length-append}
use lib.Seq.{sets, set_comm}
use borrow.Author.Tests.{lt-ltb, le-ltb, ltb-true, ltb-false}
use Rattle.rules.specs.Program.{digits, decimal}
use Rattle.file_rules.specs.Decimals.{digits_of}
use Rattle.layout.specs.Ensures.{Number, Puts, PutsTo}
use Rattle.layout.proofs.StoreLaws.{puts_of}
use Rattle.decimals.specs.Texts.{Counting}

-- ---- how many

module _ (k n : ℕ) where
  digits_one : n < 10 → digits (suc k) n ≡ (48 + n) ∷ []
  unfolding digits
  digits_one h = rw (digits, lt-ltb n 10 h)

  digits_more : 10 ≤ n → digits (suc k) n ≡ digits k (n / 10) ++ ((48 + n % 10) ∷ [])
  unfolding digits
  digits_more h = rw (digits, le-ltb n 10 h)

  one_longer : 10 ≤ n → length (digits (suc k) n) ≡ length (digits k (n / 10)) + 1
  one_longer h = ap length (digits_more h) ∙ length-append (digits k (n / 10)) ((48 + n % 10) ∷ [])

-- from 10 ^ m to 10 ^ suc m, without the latter
length_by : (m k n : ℕ) → 10 ^ m ≤ n → n < 10 ^ suc m → length (digits (suc m + k) n) ≡ suc m
length_by zero k n l h = ap (λ (j : ℕ). length (digits j n)) (suc-add zero k) ∙ ap length (digits_one (0 + k) n h)
length_by (suc m) k n l h =
    let e : 10 ^ suc m ≡ 10 * 10 ^ m = pow-succ' 10 m in
    let f : 10 ^ suc (suc m) ≡ 10 * 10 ^ suc m = pow-succ' 10 (suc m) in
    let one : 1 ≤ 10 ^ m = one-le-pow m 10 (omega arith) in
    ap (λ (j : ℕ). length (digits j n)) (suc-add (suc m) k)
    ∙ (one_longer (suc m + k) n (omega arith) ∙ omega (arith, length_by m k (n / 10) (omega arith) (omega arith)))

pub count_start : (n : ℕ) → Counting n 10 1
count_start n = record { before = 0; is = refl; power = refl; low = inl refl; few = omega arith }

module _ {n top k : ℕ} (p : Counting n top k) where
  pub count_on : n < 4294967296 → top ≤ n → Counting n (top * 10) (k + 1)
  count_on h g = record {
    before = suc p.before;
    is = omega (arith, p.is);
    power = omega (arith, p.power, pow-succ' 10 (suc p.before));
    low = inr (omega (arith, p.power));
    few = omega (arith, p.few, not_ten);
  }
    where
      not_ten : k ≡ 10 → ⊥
      not_ten e =
          let f : 10 ^ suc p.before ≡ 10000000000 = let i : suc p.before ≡ 10 = omega (arith, p.is) in ap (λ (j : ℕ). 10 ^ j) i in
          omega (arith, p.power)

  pub count_end : n < top → Number (length (decimal n)) 21 k
  count_end h = record { is = by p.low ∙ sym (ap length all_of); below = omega (arith, p.few) }
    where
      all_of : decimal n ≡ digits (suc p.before + (20 - k)) n
      all_of = let e : 20 ≡ suc p.before + (20 - k) = omega (arith, p.is, p.few) in ap (λ (j : ℕ). digits j n) e

      small : n < 10 ^ suc p.before
      small = omega (arith, p.power)

      by : (p.before ≡ 0) ⊎ (10 ^ p.before ≤ n) → k ≡ length (digits (suc p.before + (20 - k)) n)
      by (inr l) = p.is ∙ sym (length_by p.before (20 - k) n l small)
      by (inl z) =
          let t : n < 10 = let i : 10 ^ suc p.before ≡ 10 = ap (λ (j : ℕ). 10 ^ suc j) z in omega (arith, small) in
          let e : suc p.before + (20 - k) ≡ suc (p.before + (20 - k)) = suc-add p.before (20 - k) in
          omega (arith, p.is, z, ap (λ (j : ℕ). length (digits j n)) e, ap length (digits_one (p.before + (20 - k)) n t))

-- ---- all of them are the last ones, as many as they are

pub as_last : (k n : ℕ) → digits k n ≡ digits_of (length (digits k n)) n
unfolding digits digits_of
as_last zero n = refl
as_last (suc k) n = by (ltb n 10) refl (as_last k (n / 10))
  where
    by : (b : Bool) → ltb n 10 ≡ b → digits k (n / 10) ≡ digits_of (length (digits k (n / 10))) (n / 10)
        → digits (suc k) n ≡ digits_of (length (digits (suc k) n)) n
    by true e i =
        let h : n < 10 = ltb-true n 10 e in
        let m : n ≡ n % 10 = omega arith in
        digits_one k n h ∙ (ap (λ (d : ℕ). (48 + d) ∷ []) m ∙ sym (ap (λ (s : List ℕ). digits_of (length s) n) (digits_one k n h)))
    by false e i =
        let h : 10 ≤ n = ltb-false n 10 e in
        let j : length (digits (suc k) n) ≡ suc (length (digits k (n / 10))) = omega (arith, one_longer k n h) in
        digits_more k n h
        ∙ (ap (λ (s : List ℕ). s ++ ((48 + n % 10) ∷ [])) i
        ∙ sym (ap (λ (m : ℕ). digits_of m n) j))

-- ---- stored from the last to the first

set_before : (vs l : List ℕ) (j m d : ℕ) → m < j → set (sets l j vs) m d ≡ sets (set l m d) j vs
set_before [] l j m d h = refl
set_before (v ∷ vs) l j m d h =
    set_before vs (set l j v) (suc j) m d (omega arith)
    ∙ ap (λ (s : List ℕ). sets s (suc j) vs) (set_comm l j m v d (λ e. omega arith))

-- the digits from i on are stored, and `left` has those in front of them
pub record Filling (old : List ℕ) (at k n : ℕ) (out : List ℕ) (left i : ℕ) : Type 0 where
  pub front : ℕ
  pub here : i ≡ at + front
  pub done : List ℕ
  pub whole : digits_of k n ≡ digits_of front left ++ done
  pub few : front + length done ≡ k
  pub stored : out ≡ sets old i done

module _ {old : List ℕ} {at k n : ℕ} where
  pub fill_start : Filling old at k n old n (at + k)
  fill_start = record { front = k; here = refl; done = []; whole = sym (append-nil (digits_of k n)); few = omega arith; stored = refl }

  module _ {out : List ℕ} {left i : ℕ} (p : Filling old at k n out left i) where
    pub fill_on : at < i → Filling old at k n (set out (i - 1) (48 + left % 10)) (left / 10) (i - 1)
    unfolding digits_of
    fill_on h =
        let e : p.front ≡ suc (p.front - 1) = omega (arith, p.here) in
        let f : i ≡ suc (i - 1) = omega arith in
        record {
          front = p.front - 1;
          here = omega (arith, p.here);
          done = (48 + left % 10) ∷ p.done;
          whole =
              p.whole
              ∙ (ap (λ (j : ℕ). digits_of j left ++ p.done) e
              ∙ append_assoc (digits_of (p.front - 1) (left / 10)) ((48 + left % 10) ∷ []) p.done);
          few = omega (arith, p.few);
          stored =
              ap (λ (s : List ℕ). set s (i - 1) (48 + left % 10)) p.stored
              ∙ (set_before p.done old i (i - 1) (48 + left % 10) (omega arith)
              ∙ ap (λ (j : ℕ). sets (set old (i - 1) (48 + left % 10)) j p.done) f);
        }

    pub fill_end : at + k ≤ length old → i ≤ at → PutsTo old at (digits_of k n) out (at + k)
    unfolding digits_of
    fill_end g h =
        let e : p.front ≡ 0 = omega (arith, p.here) in
        let d : digits_of k n ≡ p.done = p.whole ∙ ap (λ (j : ℕ). digits_of j left ++ p.done) e in
        let f : i ≡ at = omega (arith, p.here) in
        record {
          puts =
              subst (λ (s : List ℕ). Puts old at s out) (sym d)
              (puts_of (omega (arith, p.few)) (p.stored ∙ ap (λ (j : ℕ). sets old j p.done) f));
          ends = omega (arith, ap length d, p.few);
        }

-- where the next pair starts that has b pairs before it, and perhaps a digit alone
abbrev start : ℕ → ℕ → ℕ → ℕ
start at k b = at + (k % 2 + 2 * b)

module _ {old : List ℕ} {at k n : ℕ} where
  pub pairs_start : Filling old at k n old n (start at k (k / 2))
  pairs_start = let e : at + k ≡ start at k (k / 2) = omega arith in subst (λ (i : ℕ). Filling old at k n old n i) e fill_start

  module _ {out : List ℕ} {left b : ℕ} (p : Filling old at k n out left (start at k b)) where
    -- two at a time
    pub fill_two : 0 < b
        → Filling old at k n
        (set (set out (start at k (b - 1) + 1) (48 + left % 100 % 10)) (start at k (b - 1)) (48 + left % 100 / 10))
        (left / 100)
        (start at k (b - 1))
    fill_two h =
        let Two : ℕ → ℕ → ℕ → ℕ → ℕ → Type 0 =
        λ place last first rest j. Filling old at k n (set (set out place (48 + last)) j (48 + first)) rest j in
        let i : ℕ = start at k (b - 1) in
        let j : ℕ = start at k b - 1 in
        let two : Two j (left % 10) (left / 10 % 10) (left / 10 / 10) (j - 1) = fill_on (fill_on p (omega arith)) (omega arith) in
        let a : j ≡ i + 1 = omega arith in
        let c : left % 10 ≡ left % 100 % 10 = omega arith in
        let d : left / 10 % 10 ≡ left % 100 / 10 = omega arith in
        let e : left / 10 / 10 ≡ left / 100 = omega arith in
        let f : j - 1 ≡ i = omega arith in
        subst (λ (y : ℕ). Two (i + 1) (left % 100 % 10) (left % 100 / 10) (left / 100) y) f
        (subst (λ (y : ℕ). Two (i + 1) (left % 100 % 10) (left % 100 / 10) y (j - 1)) e
        (subst (λ (y : ℕ). Two (i + 1) (left % 100 % 10) y (left / 10 / 10) (j - 1)) d
        (subst (λ (y : ℕ). Two (i + 1) y (left / 10 % 10) (left / 10 / 10) (j - 1)) c
        (subst (λ (y : ℕ). Two y (left % 10) (left / 10 % 10) (left / 10 / 10) (j - 1)) a two))))

    pub fill_done : at + k ≤ length old → b ≤ 0 → k % 2 ≡ 0 → PutsTo old at (digits_of k n) out (at + k)
    fill_done g h e = fill_end p g (omega arith)

    pub fill_last : at + k ≤ length old → b ≤ 0 → (k % 2 ≡ 0 → ⊥) → PutsTo old at (digits_of k n) (set out at (48 + left % 10)) (at + k)
    fill_last g h m =
        let one : k % 2 ≡ 1 = omega (arith, m) in
        let e : start at k b - 1 ≡ at = omega (arith, one) in
        subst (λ (y : ℕ). PutsTo old at (digits_of k n) (set out y (48 + left % 10)) (at + k)) e
        (fill_end (fill_on p (omega (arith, one))) g (omega (arith, one)))

-- ---- all of them

pub decimal_put : {old new : List ℕ} {at r : ℕ} (n : ℕ) {k : ℕ} → Number (length (decimal n)) 21 k → PutsTo old at (digits_of k n) new r
    → PutsTo old at (decimal n) new r
decimal_put {old} {new} {at} {r} n e p =
    subst (λ (s : List ℕ). PutsTo old at s new r) (ap (λ (j : ℕ). digits_of j n) e.is ∙ sym (as_last 20 n)) p
