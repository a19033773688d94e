-- Which words are reserved, by their length.
use Prim.Native.Nat.{ℕ}
use mathlib.Core.Path.{◌≡◌, refl, sym, ◌∙◌, ap}
use mathlib.Core.Bool.{Bool, true, false, ◌||◌}
use mathlib.Core.List.{List, [], ◌∷◌, map}
use lib.Dec.{eqb}
use lib.ListN.{length, length-map}
use borrow.Author.Tests.{eqb-false}
use denote.Bor.{Bor}
use Rattle.std.specs.Prelude.{Option, position}
use Rattle.std.specs.Option.{is_some}
use Rattle.rules.specs.Lists.{any, same, keep, cons_if}
use Rattle.relation_rules.specs.Grammar.{capital, reserved_words}
use Rattle.rules.proofs.ListLaws.{same_eq}
use Rattle.layout.specs.Ensures.{Says}
use Rattle.relation_words.proofs.WordLaws.{placed_any}

-- ---- reserved words by their length

same_long : (l w : List ℕ) → (length l ≡ length w → ⊥) → same l w ≡ false
same_long l w n = go (same l w) refl
  where
    go : (x : Bool) → same l w ≡ x → x ≡ false
    go true f = absurd (n (ap length (same_eq l w f)))
    go false f = refl

-- only the words that pass a test count, if no other can be it
by_test : (p : List ℕ → Bool) (l : List ℕ) → ((w : List ℕ) → p w ≡ false → same l w ≡ false) → (ws : List (List ℕ)) → any (same l) ws ≡ any (same l) (keep p ws)
by_test p l h [] = refl
by_test p l h (w ∷ ws) = go (by_test p l h ws) (p w) refl
  where
    go : any (same l) ws ≡ any (same l) (keep p ws) → (x : Bool) → p w ≡ x → (same l w || any (same l) ws) ≡ any (same l) (cons_if x w (keep p ws))
    go ih true e = ap (λ z. same l w || z) ih
    go ih false e = ap (λ z. z || any (same l) ws) (h w e) ∙ ih

by_length : (n : ℕ) (l : List ℕ) → length l ≡ n → any (same l) reserved_words ≡ any (same l) (keep (λ w. eqb (length w) n) reserved_words)
by_length n l e = by_test (λ w. eqb (length w) n) l (λ w f. same_long l w (λ g. eqb-false (length w) n f (sym g ∙ e))) reserved_words

pub reserved_is : (word : List ℕ) (ws : List (Bor (List ℕ))) {r : Option ℕ} {b : Bool} → map (λ w. w.now) ws ≡ keep (λ w. eqb (length w) (length word)) reserved_words
    → r ≡ position (λ w. same (map capital word) w.now) ws → b ≡ is_some r → Says (any (same (map capital word)) reserved_words) b
reserved_is word ws e f g =
    record {
      is =
          by_length (length word) (map capital word) (length-map word capital)
          ∙ ap (any (same (map capital word))) (sym e)
          ∙ sym (placed_any (map capital word) ws)
          ∙ ap is_some (sym f)
          ∙ sym g;
    }
