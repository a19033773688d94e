-- Two strings are level where they are the same, and so are two numbers.
use Rattle.std.proofs.Common.{◌≡◌, ℕ, Bool, true, false, ◌&&◌, cond, List, [], ◌∷◌, refl, sym, ◌∙◌, ap, arith, map, ltb, eqb, ltb-true, eqb-true}
use Rattle.rules.specs.Lists.{same}
use Rattle.rules.specs.Bytes.{raise}
use Rattle.layout.specs.Ensures.{Says}
use Rattle.relation_rules.specs.Grammar.{Equal}
use Rattle.relation_rules.specs.Truth.{Below, Level, Above, unless_level, text_order, holds, truth_of}
use Rattle.relation_truth.specs.declared.Truth.{Truth}
use Rattle.relation_truth.specs.Told.{TruthIs}

pub level_same : (x y : List ℕ) → holds Equal (text_order x y) ≡ same x y
unfolding text_order holds
level_same [] [] = refl
level_same [] (c ∷ t) = refl
level_same (b ∷ s) [] = refl
level_same (b ∷ s) (c ∷ t) = go (level_same s t) (ltb b c) refl (eqb b c) refl
  where
    go : holds Equal (text_order s t) ≡ same s t → (l : Bool) → ltb b c ≡ l → (e : Bool) → eqb b c ≡ e
        → holds Equal (unless_level (cond (ltb b c) Below (cond (eqb b c) Level Above)) (text_order s t)) ≡ (eqb b c && same s t)
    go ih true p true q = absurd (omega (arith, ltb-true b c p, eqb-true b c q))
    go ih true p false q = rw (p, q) refl
    go ih false p true q = rw (p, q) ih
    go ih false p false q = rw (p, q) refl

pub strings_same : (v w : List ℕ) {x : Bool} {r : Truth} → Says (same (map raise v) (map raise w)) x → TruthIs (truth_of x) r
    → TruthIs (truth_of (holds Equal (text_order (map raise v) (map raise w)))) r
strings_same v w q t = record { is = t.is ∙ ap truth_of (sym (level_same (map raise v) (map raise w) ∙ q.is)) }
