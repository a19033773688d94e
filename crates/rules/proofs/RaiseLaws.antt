-- Small letters raised: byte by byte, each of the 256 looked at, and name by name.
use Prim.Native.Nat.{ℕ, zero, suc, ◌-◌, ◌≤◌, ◌<◌}
use mathlib.Core.Path.{◌≡◌, refl, ap}
use mathlib.Core.Bool.{Bool, true, false, ◌&&◌, ◌||◌, not, cond, false≢true}
use mathlib.Core.List.{List, [], ◌∷◌, map}
use native.Mathlib.Omega.{arith}
use native.Mathlib.Decide.{dec_lt}
use lib.Dec.{eqb, leb, ltb}
use lib.ListN.{length}
use borrow.Author.Tests.{eqb-true, lt-leb, ltb-true}
use Rattle.rules.specs.Lists.{all, between, cons_if, same}
use Rattle.rules.specs.Letters.{letter}
use Rattle.rules.specs.Bytes.{name_byte, raise}
use Rattle.rules.specs.Question.{Granted, Grant, grants}
use Rattle.rules.proofs.TestLaws.{and_left, and_right, and_false, both}

-- ---- bytes

-- the test holds of all numbers below n
abbrev all_below : ℕ → (ℕ → Bool) → Bool
all_below zero test = true
all_below (suc n) test = test n && all_below n test

each_below : (n : ℕ) (test : ℕ → Bool) → all_below n test ≡ true → (b : ℕ) → b < n → test b ≡ true
each_below zero test e b h = absurd (omega arith)
each_below (suc n) test e b h = go (each_below n test (and_right (test n) (all_below n test) e) b) (dec_lt b n)
  where
    go : (b < n → test b ≡ true) → Dec (b < n) → test b ≡ true
    go below (yes l) = below l
    go below (no l) =
        let last : b ≡ n = omega arith in
        rw last (and_left (test n) (all_below n test) e)

-- no number behind the bytes is a small letter
stays : (b : ℕ) → 256 ≤ b → raise b ≡ b
stays b h = rw (lt-leb b 122 (omega arith), lt-leb b 254 (omega arith), and_false (leb 97 b), and_false (leb 224 b))

once : (b : ℕ) → raise (raise b) ≡ raise b
once b = go (dec_lt b 256)
  where
    go : Dec (b < 256) → raise (raise b) ≡ raise b
    go (yes h) = eqb-true (raise (raise b)) (raise b) (each_below 256 (λ b. eqb (raise (raise b)) (raise b)) refl b h)
    go (no h) = ap raise (stays b (omega arith))

still_name : (b : ℕ) → name_byte b ≡ true → name_byte (raise b) ≡ true
still_name b e = go (dec_lt b 256)
  where
    if_name : (s t : Bool) → (not s || t) ≡ true → s ≡ true → t ≡ true
    if_name true t h e = h
    if_name false t h e = absurd (false≢true e)

    go : Dec (b < 256) → name_byte (raise b) ≡ true
    go (yes h) = if_name (name_byte b) (name_byte (raise b)) (each_below 256 (λ b. not (name_byte b) || name_byte (raise b)) refl b h) e
    go (no h) = rw (stays b (omega arith)) e

-- a small letter of ASCII becomes a capital, as it did when no other was raised
abbrev pub raised_to_z : ℕ → ℕ
raised_to_z b = cond (between (letter "a") (letter "z") b) (b - 32) b

as_before : (b : ℕ) → b < 128 → raise b ≡ raised_to_z b
as_before b h = eqb-true (raise b) (raised_to_z b) (each_below 128 (λ b. eqb (raise b) (raised_to_z b)) refl b h)

-- ---- names

pub raised_once : (n : List ℕ) → map raise (map raise n) ≡ map raise n
raised_once [] = refl
raised_once (b ∷ n) = λ i. once b i ∷ raised_once n i

pub raised_name : (n : List ℕ) → all name_byte n ≡ true → all name_byte (map raise n) ≡ true
raised_name [] e = refl
raised_name (b ∷ n) e =
    both (name_byte (raise b)) (all name_byte (map raise n)) (still_name b (and_left (name_byte b) (all name_byte n) e))
    (raised_name n (and_right (name_byte b) (all name_byte n) e))

pub raised_ascii : (n : List ℕ) → all (λ b. ltb b 128) n ≡ true → map raise n ≡ map raised_to_z n
raised_ascii [] e = refl
raised_ascii (b ∷ n) e =
    let here : raise b ≡ raised_to_z b = as_before b (ltb-true b 128 (and_left (ltb b 128) (all (λ b. ltb b 128) n) e)) in
    let rest : map raise n ≡ map raised_to_z n = raised_ascii n (and_right (ltb b 128) (all (λ b. ltb b 128) n) e) in
    λ i. here i ∷ rest i

-- of two names the second counts unless it is the first once more
pub one_name : (c d : Granted) → eqb (length (grants (c ∷ d ∷ []))) 1 ≡ same (map raise d.name) (map raise c.name)
unfolding grants
one_name c d = go (same (map raise d.name) (map raise c.name))
  where
    first : Grant
    first = record { place = 1; name = map raise c.name; factor = c.factor }

    second : Grant
    second = record { place = 2; name = map raise d.name; factor = d.factor }

    go : (t : Bool) → eqb (length (first ∷ cons_if (not t) second [])) 1 ≡ t
    go true = refl
    go false = refl
