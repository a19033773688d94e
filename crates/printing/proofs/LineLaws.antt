-- The parts of a line, one behind the other.
use Prim.Native.Nat.{ℕ, zero, suc, ◌+◌, ◌≤◌, ◌<◌}
use mathlib.Core.Path.{◌≡◌, refl, sym, ◌∙◌, ap, subst}
use mathlib.Core.List.{List, [], ◌∷◌, ◌++◌, append_assoc}
use native.Mathlib.Omega.{arith}
use lib.IntN.{ℤ, pos, negsuc}
use lib.ListN.{length, length-append}
use Rattle.rules.specs.Letters.{text}
use Rattle.rules.specs.Program.{digits, decimal, signed_decimal, currency_text, stretch_text}
use Rattle.rules.specs.Question.{letters_of}
use Rattle.rules.specs.declared.Currency.{Currency}
use Rattle.stretches.specs.declared.Stretch.{Stretch}
use Rattle.stretches.specs.Stretches.{as_stretch}
use Rattle.layout.specs.Ensures.{PutsTo}
use Rattle.printing.proofs.DigitLaws.{few_digits, prints_then}

-- ---- a number and a blank

module _ {out : List ℕ} {at : ℕ} (n : ℕ) (h : at + 21 ≤ length out) {front : List ℕ} {end : ℕ} (p : PutsTo out at (digits 20 n) front end) where
  pub blank_room : end < length front
  blank_room = omega (arith, p.ends, p.puts.long, few_digits 20 n)

  pub number_blank : {last : List ℕ} {r : ℕ} → PutsTo front end (32 ∷ []) last r → PutsTo out at (decimal n ++ text " ") last r
  number_blank q = prints_then p q

-- ---- three letters and a blank

pub word_kept : (c : Currency) (refusal : ℕ) → refusal ≡ 0 → letters_of c ≡ currency_text refusal (letters_of c)
word_kept c refusal e = ap (λ (k : ℕ). currency_text k (letters_of c)) (sym e)

pub word_struck : (c : Currency) (refusal : ℕ) → (refusal ≡ 0 → ⊥) → letters_of (record {
  0 = 45;
  1 = 45;
  2 = 45;
}) ≡ currency_text refusal (letters_of c)
word_struck c zero z = absurd (z refl)
word_struck c (suc k) z = refl

-- ---- a whole line

few_signed : (z : ℤ) → length (signed_decimal z) ≤ 21
few_signed (pos n) = omega (arith, few_digits 20 n)
few_signed (negsuc n) = omega (arith, few_digits 20 (suc n))

few_number : (n : ℕ) → length (decimal n ++ text " ") ≤ 21
few_number n = simp length-append (omega (arith, few_digits 20 n))

-- parts with their blanks are the parts with blanks between them
joined : (a b c d e : List ℕ) → (a ++ text " ") ++ ((b ++ text " ") ++ ((c ++ text " ") ++ ((d ++ text " ") ++ (e ++ text "\n"))))
    ≡ (a ++ (text " " ++ (b ++ (text " " ++ (c ++ (text " " ++ (d ++ (text " " ++ e)))))))) ++ text "\n"
joined a b c d e =
    let s : List ℕ = text " " in
    let t : List ℕ = text "\n" in
    let by : (x y : List ℕ) → (x ++ (s ++ y)) ++ t ≡ (x ++ s) ++ (y ++ t) = λ x y. append_assoc x (s ++ y) t ∙ (ap (λ z. x ++ z) (append_assoc s y t) ∙ sym (append_assoc x s (y ++ t))) in
    let cd : List ℕ = c ++ (s ++ (d ++ (s ++ e))) in
    ap (λ x. (a ++ s) ++ ((b ++ s) ++ ((c ++ s) ++ x))) (sym (by d e))
    ∙ ap (λ x. (a ++ s) ++ ((b ++ s) ++ x)) (sym (by c (d ++ (s ++ e))))
    ∙ ap (λ x. (a ++ s) ++ x) (sym (by b cd))
    ∙ sym (by a (b ++ (s ++ cd)))

module _ {out : List ℕ} {at : ℕ} (s : Stretch) (h : at + 89 ≤ length out)
    {o₁ : List ℕ} {a : ℕ} (p₁ : PutsTo out at (decimal s.first.0 ++ text " ") o₁ a) where
  pub room₁ : a + 68 ≤ length o₁
  room₁ = omega (arith, p₁.ends, p₁.puts.long, few_number s.first.0)

  module _ {o₂ : List ℕ} {b : ℕ} (p₂ : PutsTo o₁ a (decimal s.last.0 ++ text " ") o₂ b) where
    pub room₂ : b + 47 ≤ length o₂
    room₂ = omega (arith, room₁, p₂.ends, p₂.puts.long, few_number s.last.0)

    module _ {o₃ : List ℕ} {c : ℕ} (p₃ : PutsTo o₂ b (decimal s.outcome.refusal ++ text " ") o₃ c) where
      pub room₃ : c + 26 ≤ length o₃
      room₃ = omega (arith, room₂, p₃.ends, p₃.puts.long, few_number s.outcome.refusal)

      module _ {word : Currency} (is : letters_of word ≡ currency_text s.outcome.refusal (letters_of s.outcome.currency)) {o₄ : List ℕ} {d : ℕ} (p₄ : PutsTo o₃ c (letters_of word ++ text " ") o₄ d) where
        pub room₄ : d + 22 ≤ length o₄
        room₄ = omega (arith, room₃, p₄.ends, p₄.puts.long)

        module _ {o₅ : List ℕ} {e : ℕ} (p₅ : PutsTo o₄ d (signed_decimal s.outcome.unit.0) o₅ e) where
          pub room₅ : e < length o₅
          room₅ = omega (arith, room₄, p₅.ends, p₅.puts.long, few_signed s.outcome.unit.0)

          pub line_prints : {o₆ : List ℕ} {r : ℕ} → PutsTo o₅ e (10 ∷ []) o₆ r → PutsTo out at (stretch_text (as_stretch s)) o₆ r
          line_prints {o₆} {r} p₆ =
              subst (λ (bs : List ℕ). PutsTo out at bs o₆ r) (joined (decimal s.first.0) (decimal s.last.0) (decimal s.outcome.refusal) (currency_text s.outcome.refusal (letters_of s.outcome.currency)) (signed_decimal s.outcome.unit.0))
              (prints_then p₁ (prints_then p₂ (prints_then p₃ (prints_then (subst (λ (bs : List ℕ). PutsTo o₃ c (bs ++ text " ") o₄ d) is p₄) (prints_then p₅ p₆)))))

-- a line is at most 89 bytes
pub line_short : (s : Stretch) → length (stretch_text (as_stretch s)) ≤ 89
line_short s =
    subst (λ (bs : List ℕ). length bs ≤ 89) (joined (decimal s.first.0) (decimal s.last.0) (decimal s.outcome.refusal) (currency_text s.outcome.refusal (letters_of s.outcome.currency)) (signed_decimal s.outcome.unit.0))
    (simp length-append (omega (arith, few_digits 20 s.first.0, few_digits 20 s.last.0, few_digits 20 s.outcome.refusal, few_currency s.outcome.refusal, few_signed s.outcome.unit.0)))
  where
    few_currency : (k : ℕ) → length (currency_text k (letters_of s.outcome.currency)) ≡ 3
    few_currency zero = refl
    few_currency (suc k) = refl
