-- Words in small letters are the same tokens as in capitals.
use Prim.Native.Nat.{ℕ, ◌-◌, ◌≤◌, ◌<◌}
use mathlib.Core.Path.{◌≡◌, refl, sym, ◌∙◌, ap}
use mathlib.Core.Bool.{Bool, true, false, ◌&&◌, ◌||◌, cond, false≢true}
use mathlib.Core.List.{List, [], ◌∷◌, map}
use mathlib.Core.Option.{some}
use native.Mathlib.Omega.{arith}
use lib.Dec.{eqb, leb}
use borrow.Author.Tests.{lt-leb, ne_eqb}
use Rattle.rules.specs.Lists.{all, any, same, between}
use Rattle.rules.specs.Letters.{text, letter}
use Rattle.relation_rules.specs.Grammar.{Token, Variable, Fixed, capital, is_letter, is_digit, is_quote, minus, word_byte, sign_byte, Sort, Word, Figure, String, Dollar, Compare, Mark, sort_of, giving, word_token, is_empty, token_in, token_of}
use Rattle.rules.proofs.TestLaws.{and_left, and_right, both, between_low, between_high, is_between}
use Rattle.relation_rules.proofs.TokenLaws.{giving_true, giving_is, or_left, or_right, raise_words, View, view, figure, string}

pub capital_twice : (b : ℕ) → capital (capital b) ≡ capital b
capital_twice b = go (between 97 122 b) refl
  where
    go : (x : Bool) → between 97 122 b ≡ x → capital (cond x (b - 32) b) ≡ cond x (b - 32) b
    go true e =
        let high : b ≤ 122 = between_high 97 122 b e in
        let low : 97 ≤ b = between_low 97 122 b e in
        ap (λ z. cond (z && leb (b - 32) 122) (b - 32 - 32) (b - 32)) (lt-leb 97 (b - 32) (omega arith))
    go false e = ap (λ z. cond z (b - 32) b) e

pub capitals_twice : (l : List ℕ) → map capital (map capital l) ≡ map capital l
capitals_twice [] = refl
capitals_twice (b ∷ l) = λ i. capital_twice b i ∷ capitals_twice l i

letter_capital : (b : ℕ) → is_letter b ≡ true → is_letter (capital b) ≡ true
letter_capital b e = go (between 97 122 b) refl
  where
    go : (x : Bool) → between 97 122 b ≡ x → is_letter (cond x (b - 32) b) ≡ true
    go true f =
        let high : b ≤ 122 = between_high 97 122 b f in
        let low : 97 ≤ b = between_low 97 122 b f in
        let c = b - 32 in
        or_left (between 65 90 c || between 97 122 c) (eqb c 95) (or_left (between 65 90 c) (between 97 122 c) (is_between 65 90 c (omega arith) (omega arith)))
    go false f = e

pub other_capital : (b : ℕ) → is_letter b ≡ false → capital b ≡ b
other_capital b e = go (between 97 122 b) refl
  where
    go : (x : Bool) → between 97 122 b ≡ x → cond x (b - 32) b ≡ b
    go true f =
        absurd (false≢true (sym e ∙ or_left (between 65 90 b || between 97 122 b) (eqb b 95) (or_right (between 65 90 b) (between 97 122 b) f)))
    go false f = refl

-- a sign has no letters
sign_capital : (c : ℕ) → sign_byte (capital c) ≡ true → sign_byte c ≡ true
sign_capital c e = go (between 97 122 c) refl e
  where
    go : (x : Bool) → between 97 122 c ≡ x → sign_byte (cond x (c - 32) c) ≡ true → sign_byte c ≡ true
    go true f g =
        let low : 97 ≤ c = between_low 97 122 c f in
        absurd (false≢true (sym (none_of (c - 32) (omega arith)) ∙ g))
      where
        none_of : (d : ℕ) → 65 ≤ d → sign_byte d ≡ false
        none_of d l = λ i. unlike 60 (omega arith) i || (unlike 61 (omega arith) i || (unlike 62 (omega arith) i || false))
          where
            unlike : (k : ℕ) → k < 65 → eqb d k ≡ false
            unlike k m = ne_eqb d k (λ (h : d ≡ k). omega arith)
    go false f g = g

signs_capital : (l : List ℕ) → all sign_byte (map capital l) ≡ true → all sign_byte l ≡ true
signs_capital [] e = refl
signs_capital (c ∷ l) e =
    both (sign_byte c) (all sign_byte l) (sign_capital c (and_left (sign_byte (capital c)) (all sign_byte (map capital l)) e))
    (signs_capital l (and_right (sign_byte (capital c)) (all sign_byte (map capital l)) e))

empty_capital : (l : List ℕ) → is_empty (map capital l) ≡ is_empty l
empty_capital [] = refl
empty_capital (c ∷ l) = refl

-- no string, no number: then the token in capitals is the token
module _ (n b : ℕ) (l : List ℕ) (t : Token) where
  as_word : token_in Word n (capital b) (map capital l) ≡ some t → token_in Word n b l ≡ some t
  as_word e =
      let up = word_token (map capital (capital b ∷ map capital l)) in
      let same_word : up ≡ t = giving_is (all word_byte (map capital l)) up t e in
      ap (λ z. giving z (word_token (map capital (b ∷ l)))) (raise_words l (giving_true (all word_byte (map capital l)) up t e))
      ∙ ap (λ z. some (word_token z)) (sym (capitals_twice (b ∷ l)))
      ∙ ap some same_word

  as_variable : token_in Dollar n (capital b) (map capital l) ≡ some t → token_in Dollar n b l ≡ some t
  as_variable e = ap (λ z. giving (same z (text "$VARCOND")) (Variable n)) (sym (capitals_twice (b ∷ l))) ∙ e

  as_sign : token_in Compare n (capital b) (map capital l) ≡ some t → token_in Compare n b l ≡ some t
  as_sign e =
      let up = Fixed (map capital (capital b ∷ map capital l)) in
      ap (λ z. giving z (Fixed (map capital (b ∷ l)))) (signs_capital l (giving_true (all sign_byte (map capital l)) up t e))
      ∙ ap (λ z. some (Fixed z)) (sym (capitals_twice (b ∷ l)))
      ∙ ap some (giving_is (all sign_byte (map capital l)) up t e)

  as_mark : capital b ≡ b → token_in Mark n (capital b) (map capital l) ≡ some t → token_in Mark n b l ≡ some t
  as_mark k e =
      sym (λ i. giving (any (eqb (k i)) (text "(),") && empty_capital l i) (Fixed (capitals_twice (b ∷ l) i))) ∙ e

  pub token_capital : is_quote b ≡ false → (is_digit b || minus b) ≡ false → token_of n (map capital (b ∷ l)) ≡ some t → token_of n (b ∷ l) ≡ some t
  unfolding token_of
  token_capital q f e = go (is_letter b) refl
    where
      by_sort : capital b ≡ b → (s : Sort) → View b s → token_in s n (capital b) (map capital l) ≡ some t → token_in s n b l ≡ some t
      by_sort k Word v h = as_word h
      by_sort k Figure (figure g) h = absurd (false≢true (sym f ∙ g))
      by_sort k String (string g) h = absurd (false≢true (sym q ∙ g))
      by_sort k Dollar v h = as_variable h
      by_sort k Compare v h = as_sign h
      by_sort k Mark v h = as_mark k h

      go : (x : Bool) → is_letter b ≡ x → token_in (sort_of b) n b l ≡ some t
      go true g =
          ap (λ z. token_in (cond z Word (cond (is_digit b || minus b) Figure (cond (is_quote b) String (cond (eqb b (letter "$")) Dollar (cond (sign_byte b) Compare Mark))))) n b l) g
          ∙ as_word
          (ap
          (λ z. token_in (cond z Word (cond (is_digit (capital b) || minus (capital b)) Figure (cond (is_quote (capital b)) String (cond (eqb (capital b) (letter "$")) Dollar (cond (sign_byte (capital b)) Compare Mark))))) n (capital b) (map capital l))
          (sym (letter_capital b g))
          ∙ e)
      go false g =
          let k = other_capital b g in
          by_sort k (sort_of b) (view b) (ap (λ z. token_in (sort_of z) n (capital b) (map capital l)) (sym k) ∙ e)
