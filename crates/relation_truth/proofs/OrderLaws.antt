-- The orders that code tells of numbers and of strings are those of the rules.
use Rattle.std.proofs.Common.{◌≡◌, ℕ, suc, ◌+◌, ◌<◌, ◌≤◌, Bool, true, false, List, [], ◌∷◌, refl, sym, ◌∙◌, ap, arith, add-one, drop-cons, length, drop, get_or, cond, ltb, eqb, ltb-true, ltb-false, eqb-true, eq-eqb, ℤ, pos, negsuc, Ordering, Less, Equal, Greater}
use lib.ListN.{length-map, drop_of_length-le, get_or-map}
use Rattle.std.proofs.lemmas.Bool.{eqb-false}
use Rattle.std.specs.Ordering.{nat_cmp, int_cmp, is_ne}
use Rattle.rules.specs.Bytes.{raise}
use Rattle.layout.specs.Ensures.{Number}
use Rattle.relation_rules.specs.Truth.{Order, order_of, unless_level, text_order, number_order, spoken}
use Rattle.relation_truth.specs.Told.{order_in, OrderIs}
use Rattle.relation_truth.specs.Values.{spoken_byte}

-- ---- numbers

number_is : (m n : ℕ) → order_in (nat_cmp m n) ≡ order_of m n
number_is m n = go (ltb m n) refl (eqb m n) refl
  where
    go : (x : Bool) → ltb m n ≡ x → (y : Bool) → eqb m n ≡ y → order_in (nat_cmp m n) ≡ order_of m n
    go true e y f = rw e refl
    go false e true f = rw (e, f) refl
    go false e false f = rw (e, f) refl

sizes_are : (m n : ℕ) → order_in (cond (ltb m n) Less (cond (ltb n m) Greater Equal)) ≡ order_of m n
sizes_are m n = go (ltb m n) refl (ltb n m) refl (eqb m n) refl
  where
    go : (x : Bool) → ltb m n ≡ x → (y : Bool) → ltb n m ≡ y → (z : Bool) → eqb m n ≡ z → order_in (cond (ltb m n) Less (cond (ltb n m) Greater Equal)) ≡ order_of m n
    go true p y q z r = rw p refl
    go false p true q true r = absurd (omega (arith, ltb-true n m q, eqb-true m n r))
    go false p true q false r = rw (p, q, r) refl
    go false p false q true r = rw (p, q, r) refl
    go false p false q false r = absurd (eqb-false m n r (omega (arith, ltb-false m n p, ltb-false n m q)))

wholes_are : (x y : ℤ) → order_in (int_cmp x y) ≡ number_order x y
wholes_are (pos m) (pos n) = sizes_are m n
wholes_are (pos m) (negsuc n) = refl
wholes_are (negsuc m) (pos n) = refl
wholes_are (negsuc m) (negsuc n) = sizes_are n m

pub numbers_order : (x y : ℤ) {o : Ordering} → o ≡ int_cmp x y → OrderIs (number_order x y) o
numbers_order x y e = record { is = ap order_in e ∙ wholes_are x y }

-- ---- strings

spoken_length : (raised : Bool) (v : List ℕ) → length (spoken raised v) ≡ length v
spoken_length true v = rw length-map
spoken_length false v = refl

spoken_at : (raised : Bool) (v : List ℕ) (i : ℕ) → get_or (spoken raised v) i 0 ≡ spoken_byte raised (get_or v i 0)
spoken_at true v i = get_or-map raise v i 0
spoken_at false v i = refl

-- the first i bytes are alike
pub record Alike (raised : Bool) (a b : List ℕ) (i : ℕ) : Type 0 where
  pub in_first : i ≤ length a
  pub in_second : i ≤ length b
  pub rest : text_order (spoken raised a) (spoken raised b) ≡ text_order (drop i (spoken raised a)) (drop i (spoken raised b))

pub text_start : (raised : Bool) (a b : List ℕ) → Alike raised a b 0
text_start raised a b = record { in_first = omega arith; in_second = omega arith; rest = refl }

module _ {raised : Bool} {a b : List ℕ} {i : ℕ} (inv : Alike raised a b i) where
  more_first : i < length a → drop i (spoken raised a) ≡ get_or (spoken raised a) i 0 ∷ drop (suc i) (spoken raised a)
  more_first h = drop-cons (spoken raised a) i 0 (rw (spoken_length raised a) h)

  more_second : i < length b → drop i (spoken raised b) ≡ get_or (spoken raised b) i 0 ∷ drop (suc i) (spoken raised b)
  more_second h = drop-cons (spoken raised b) i 0 (rw (spoken_length raised b) h)

  no_first : length a ≤ i → drop i (spoken raised a) ≡ []
  no_first h = drop_of_length-le (spoken raised a) {i = i} (rw (spoken_length raised a) h)

  no_second : length b ≤ i → drop i (spoken raised b) ≡ []
  no_second h = drop_of_length-le (spoken raised b) {i = i} (rw (spoken_length raised b) h)

  pub text_longer : i < length a → length b ≤ i → OrderIs (text_order (spoken raised a) (spoken raised b)) Greater
  unfolding text_order
  text_longer h g = record { is = sym (inv.rest ∙ (λ j. text_order (more_first h j) (no_second g j))) }

  pub text_ends : {o : Ordering} → length a ≤ i → o ≡ nat_cmp (length a) (length b) → OrderIs (text_order (spoken raised a) (spoken raised b)) o
  unfolding text_order
  text_ends {o} h e = go (ltb (length a) (length b)) refl
    where
      here : length a ≡ i
      here = let l : i ≤ length a = inv.in_first in omega arith

      go : (x : Bool) → ltb (length a) (length b) ≡ x → OrderIs (text_order (spoken raised a) (spoken raised b)) o
      go true f =
          let l : length a < length b = ltb-true (length a) (length b) f in
          let g : i < length b = omega arith in
          record { is = rw (e, f) (sym (inv.rest ∙ (λ j. text_order (no_first h j) (more_second g j)))) }
      go false f =
          let l : length b ≤ length a = ltb-false (length a) (length b) f in
          let k : i ≤ length b = inv.in_second in
          let g : length b ≤ i = omega arith in
          let m : length a ≡ length b = omega arith in
          record { is = rw (e, f, eq-eqb (length a) (length b) m) (sym (inv.rest ∙ (λ j. text_order (no_first h j) (no_second g j)))) }

  module _ (h : i < length a) (g : i < length b) {x y : ℕ} {o : Ordering} (p : Number (spoken_byte raised (get_or a i 0)) 256 x) (q : Number (spoken_byte raised (get_or b i 0)) 256 y)
      (r : o ≡ nat_cmp x y) where
    decided : order_of (spoken_byte raised (get_or a i 0)) (spoken_byte raised (get_or b i 0)) ≡ order_in o
    decided = sym (ap order_in r ∙ number_is x y ∙ (λ j. order_of (p.is j) (q.is j)))

    -- the next two bytes decide, or what is behind them
    next_two : text_order (spoken raised a) (spoken raised b) ≡ unless_level (order_in o) (text_order (drop (suc i) (spoken raised a)) (drop (suc i) (spoken raised b)))
    unfolding text_order
    next_two =
        inv.rest
        ∙ ((λ j. text_order (more_first h j) (more_second g j))
        ∙ (λ j. unless_level (((λ k. order_of (spoken_at raised a i k) (spoken_at raised b i k)) ∙ decided) j) (text_order (drop (suc i) (spoken raised a)) (drop (suc i) (spoken raised b)))))

    pub text_decided : is_ne o ≡ true → OrderIs (text_order (spoken raised a) (spoken raised b)) o
    text_decided n = record { is = sym (next_two ∙ go o n _) }
      where
        go : (o : Ordering) → is_ne o ≡ true → (z : Order) → unless_level (order_in o) z ≡ order_in o
        go Less n z = refl
        go Equal n z = cc
        go Greater n z = refl

    pub text_again : is_ne o ≡ false → Alike raised a b (i + 1)
    text_again e = rw (add-one i) (record { in_first = omega arith; in_second = omega arith; rest = next_two ∙ go o e _ })
      where
        go : (o : Ordering) → is_ne o ≡ false → (z : Order) → unless_level (order_in o) z ≡ z
        go Less n z = cc
        go Equal n z = refl
        go Greater n z = cc
