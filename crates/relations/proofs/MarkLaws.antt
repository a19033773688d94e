-- A mark behind a constant of a list: a token of one byte, whatever stands behind it; or one that was read as anywhere.
use Prim.Native.Nat.{ℕ, suc, ◌+◌, ◌≤◌, ◌<◌}
use mathlib.Core.Path.{◌≡◌, refl, sym, ◌∙◌, ap}
use mathlib.Core.Bool.{Bool, true, false, not, ◌||◌}
use mathlib.Core.List.{List, [], ◌∷◌}
use mathlib.Core.Option.{some}
use native.Mathlib.Omega.{arith}
use native.Mathlib.Numerals.{add-one}
use lib.Dec.{eqb}
use lib.ListN.{length, drop, get_or}
use borrow.Author.Tests.{eqb-true, eqb-false}
use Rattle.rules.specs.Letters.{text}
use Rattle.layout.specs.Reads.{part}
use Rattle.relation_rules.specs.Grammar.{Token, Fixed, Mark, sort_of, reaches, goes_on, apart, token_of}
use Rattle.relation_rules.specs.Parts.{TokenAt}
use Rattle.relation_words.specs.declared.tokens.Token.{Token as Found}
use Rattle.relation_words.specs.Words.{Gap}
use Rattle.relation_words.specs.Wanted.{TokenHere}
use Rattle.relation_words.specs.Heard.{TokenHeardOn}
use Rattle.relation_words.proofs.StretchLaws.{one_part}
use Rattle.relation_words.proofs.TokenLaws.{gap_token}
use Rattle.relations.specs.Expected.{wants_mark, word_in, MarkOver}
use Rattle.relations.proofs.ExpectedLaws.{word_least, word_last, word_token}

-- ---- by its byte

mark_alone : (b : ℕ) (l : List ℕ) → sort_of b ≡ Mark → apart (b ∷ []) l ≡ true
unfolding goes_on
mark_alone b [] e = refl
mark_alone b (c ∷ l) e = ap (λ v. not (reaches v [] c)) e

module _ {s : List ℕ} {at i : ℕ} (g : Gap s at i) (l : i < length s) where
  one : (b : ℕ) → get_or s i 0 ≡ b → part s i (i + 1) ≡ b ∷ []
  one b e = ap (part s i) (add-one i) ∙ one_part s i l ∙ ap (λ z. z ∷ []) e

  mark_here : (b : ℕ) → get_or s i 0 ≡ b → sort_of b ≡ Mark → (t : Token) → token_of (suc i) (b ∷ []) ≡ some t → TokenHere s i t (i + 1)
  mark_here b e m t f = record {
    on = omega arith;
    most = omega arith;
    is = ap (token_of (suc i)) (one b e) ∙ f;
    alone = ap (λ z. apart z (drop (i + 1) s)) (one b e) ∙ mark_alone b (drop (i + 1) s) m;
  }

  told : (b : ℕ) → get_or s i 0 ≡ b → sort_of b ≡ Mark → token_of (suc i) (b ∷ []) ≡ some (Fixed (b ∷ [])) → TokenAt (suc at) (drop at s) (Fixed (b ∷ [])) (suc (i + 1)) (drop (i + 1) s)
  told b e m f = gap_token g (mark_here b e m (Fixed (b ∷ [])) f)

  pub mark_byte : (eqb (get_or s i 0) 44 || eqb (get_or s i 0) 41) ≡ true → MarkOver s at (record { closes = eqb (get_or s i 0) 41; to = i + 1 })
  unfolding token_of
  mark_byte h = record {
    further = let a : at ≤ i = g.on in omega arith;
    most = omega arith;
    closing = λ e. told 41 (eqb-true (get_or s i 0) 41 e) refl refl;
    comma = λ e. told 44 (eqb-true (get_or s i 0) 44 (either (eqb (get_or s i 0) 44) (eqb (get_or s i 0) 41) h e)) refl refl;
  }
    where
      either : (x y : Bool) → (x || y) ≡ true → y ≡ false → x ≡ true
      either true y p q = refl
      either false y p q = absurd (mathlib.Core.Bool.false≢true (sym q ∙ p))

-- ---- as a word

pub mark_word : {s : List ℕ} {at k : ℕ} {t : Found} → TokenHeardOn wants_mark s at t → k ≡ word_in t.kind → MarkOver s at (record { closes = eqb k 2; to = t.to })
unfolding token_of
mark_word {s} {at} {k} {t} h e = record {
  further = let a : at ≤ t.from = h.begins in let b : t.from < t.to = h.further in omega arith;
  most = h.most;
  closing = λ c. word_token h 2 (sym e ∙ eqb-true k 2 c) (Fixed (text ")")) refl;
  comma = λ c. word_token h 1 (first c) (Fixed (text ",")) refl;
}
  where
    first : eqb k 2 ≡ false → word_in t.kind ≡ 1
    first c =
        let a : 1 ≤ word_in t.kind = word_least h in
        let b : word_in t.kind ≤ 2 = word_last h in
        let d : k ≡ 2 → ⊥ = eqb-false k 2 c in
        omega arith
