-- A field that a semicolon follows is the same field, whatever stands behind its line.
use Prim.Native.Nat.{ℕ, ◌<◌}
use mathlib.Core.Path.{◌≡◌, refl, sym, ◌∙◌, ap}
use mathlib.Core.Bool.{Bool, true, false, ◌||◌}
use mathlib.Core.List.{List, [], ◌∷◌, ◌++◌}
use mathlib.Core.Option.{Option, some, none, some-injective, none-ne-some}
use native.Mathlib.Omega.{arith}
use lib.Dec.{eqb}
use lib.ListN.{length}
use borrow.Author.Tests.{eqb-true}
use Rattle.rules.specs.Layout.{and_then, give_if, front}
use Rattle.file_rules.specs.Fields.{semicolon, quote, space, onto, cut, inside, past_spaces, spaced, field_by, field, next_field}
use Rattle.file_rules.proofs.FieldLaws.{cut_at, cut_on, inside_other, inside_two, inside_last, past_on, past_at}

abbrev Read : Type 0
Read = Option (List ℕ × List ℕ)

cut_more : (c : ℕ) (s u : List ℕ) → 0 < length (cut c s).1 → cut c (s ++ u) ≡ ((cut c s).0, (cut c s).1 ++ u)
unfolding cut
cut_more c [] u h = absurd (omega arith)
cut_more c (b ∷ s) u h = by (eqb c b) refl (cut_more c s u)
  where
    by : (t : Bool) → eqb c b ≡ t → (0 < length (cut c s).1 → cut c (s ++ u) ≡ ((cut c s).0, (cut c s).1 ++ u))
        → cut c (b ∷ (s ++ u)) ≡ ((cut c (b ∷ s)).0, (cut c (b ∷ s)).1 ++ u)
    by true e i = cut_at c b (s ++ u) e ∙ sym (ap (λ (p : List ℕ × List ℕ). (p.0, p.1 ++ u)) (cut_at c b s e))
    by false e i =
        let on : cut c (b ∷ s) ≡ onto b (cut c s) = cut_on c b s e in
        let l : 0 < length (cut c s).1 = omega (arith, ap (λ (p : List ℕ × List ℕ). length p.1) on) in
        cut_on c b (s ++ u) e ∙ (ap (onto b) (i l) ∙ sym (ap (λ (p : List ℕ × List ℕ). (p.0, p.1 ++ u)) on))

past_more : (s u : List ℕ) → 0 < length (past_spaces s) → past_spaces (s ++ u) ≡ past_spaces s ++ u
unfolding past_spaces
past_more [] u h = absurd (omega arith)
past_more (b ∷ s) u h = by (eqb b space) refl (past_more s u)
  where
    by : (t : Bool) → eqb b space ≡ t → (0 < length (past_spaces s) → past_spaces (s ++ u) ≡ past_spaces s ++ u)
        → past_spaces (b ∷ (s ++ u)) ≡ past_spaces (b ∷ s) ++ u
    by true e i =
        past_on b (s ++ u) e
        ∙ (i (omega (arith, ap length (past_on b s e))) ∙ ap (λ (t : List ℕ). t ++ u) (sym (past_on b s e)))
    by false e i = past_at b (s ++ u) e ∙ ap (λ (t : List ℕ). t ++ u) (sym (past_at b s e))

front_is : (b : ℕ) (o : Read) {x r : List ℕ} → front b o ≡ some (x, r) → (y : List ℕ) × (o ≡ some (y, r)) × (b ∷ y ≡ x)
front_is b none {x} {r} e = absurd (none-ne-some (x, r) e)
front_is b (some p) {x} {r} e =
    let i : ◌≡◌ {A = List ℕ × List ℕ} (b ∷ p.0, p.1) (x, r) = some-injective (b ∷ p.0, p.1) (x, r) e in
    (p.0, ap (λ (q : List ℕ × List ℕ). some (p.0, q.1)) i, ap (λ (q : List ℕ × List ℕ). q.0) i)

inside_more : (s u : List ℕ) {x r : List ℕ} → inside s ≡ some (x, r) → 0 < length r → inside (s ++ u) ≡ some (x, r ++ u)
unfolding inside
inside_more [] u {x} {r} e h = absurd (none-ne-some (x, r) e)
inside_more (b ∷ []) u {x} {r} e h = by (eqb b quote) refl
  where
    by : (t : Bool) → eqb b quote ≡ t → inside (b ∷ u) ≡ some (x, r ++ u)
    by true f =
        let i : ◌≡◌ {A = List ℕ × List ℕ} ([], []) (x, r) = some-injective ([], []) (x, r) (sym (inside_last b [] f refl) ∙ e) in
        absurd (omega (arith, ap (λ (q : List ℕ × List ℕ). length q.1) i))
    by false f = absurd (none-ne-some (x, r) (sym (inside_other b [] f) ∙ e))
inside_more (b ∷ (c ∷ s)) u {x} {r} e h = by (eqb b quote) (eqb c quote) refl refl (λ y e. inside_more s u {x = y} e h) (λ y e. inside_more (c ∷ s) u {x = y} e h)
  where
    by : (t v : Bool) → eqb b quote ≡ t → eqb c quote ≡ v
        → ((y : List ℕ) → inside s ≡ some (y, r) → inside (s ++ u) ≡ some (y, r ++ u))
        → ((y : List ℕ) → inside (c ∷ s) ≡ some (y, r) → inside (c ∷ (s ++ u)) ≡ some (y, r ++ u))
        → inside (b ∷ (c ∷ (s ++ u))) ≡ some (x, r ++ u)
    by true true f g i j =
        let y = front_is quote (inside s) (sym (inside_two b c s f g) ∙ e) in
        inside_two b c (s ++ u) f g ∙ (ap (front quote) (i y.0 y.1) ∙ ap (λ (z : List ℕ). some (z, r ++ u)) y.2)
    by true false f g i j =
        inside_last b (c ∷ (s ++ u)) f g
        ∙ ap (λ (q : List ℕ × List ℕ). some (q.0, q.1 ++ u)) (some-injective ([], c ∷ s) (x, r) (sym (inside_last b (c ∷ s) f g) ∙ e))
    by false v f g i j =
        let y = front_is b (inside (c ∷ s)) (sym (inside_other b (c ∷ s) f) ∙ e) in
        inside_other b (c ∷ (s ++ u)) f ∙ (ap (front b) (j y.0 y.1) ∙ ap (λ (z : List ℕ). some (z, r ++ u)) y.2)

past_some : (s : List ℕ) → 0 < length (past_spaces s) → 0 < length s
unfolding past_spaces
past_some [] h = absurd (omega arith)
past_some (b ∷ s) h = omega arith

pub field_more : (s u : List ℕ) {x r : List ℕ} → field s ≡ some (x, r) → 0 < length r → field (s ++ u) ≡ some (x, r ++ u)
unfolding field cut
field_more [] u {x} {r} e h =
    absurd (omega (arith, ap (λ (q : List ℕ × List ℕ). length q.1) (some-injective ([], []) (x, r) e)))
field_more (b ∷ s) u {x} {r} e h = by (eqb b quote) e
  where
    closed : (o : Read) → spaced o ≡ some (x, r) → (q : List ℕ) × (o ≡ some (x, q)) × (past_spaces q ≡ r)
    closed none e = absurd (none-ne-some (x, r) e)
    closed (some p) e =
        let i : ◌≡◌ {A = List ℕ × List ℕ} (p.0, past_spaces p.1) (x, r) = some-injective (p.0, past_spaces p.1) (x, r) e in
        (p.1, ap (λ (q : List ℕ × List ℕ). some (q.0, p.1)) i, ap (λ (q : List ℕ × List ℕ). q.1) i)

    by : (t : Bool) → field_by t (b ∷ s) ≡ some (x, r) → field_by t (b ∷ (s ++ u)) ≡ some (x, r ++ u)
    by true e =
        let y = closed (inside s) e in
        let l : 0 < length (past_spaces y.0) = omega (arith, ap length y.2) in
        ap spaced (inside_more s u y.1 (past_some y.0 l))
        ∙ ap (λ (z : List ℕ). some (x, z)) (past_more y.0 u l ∙ ap (λ (z : List ℕ). z ++ u) y.2)
    by false e =
        let i : cut semicolon (b ∷ s) ≡ (x, r) = some-injective (cut semicolon (b ∷ s)) (x, r) e in
        ap some (cut_more semicolon (b ∷ s) u (omega (arith, ap (λ (q : List ℕ × List ℕ). length q.1) i))
        ∙ ap (λ (q : List ℕ × List ℕ). (q.0, q.1 ++ u)) i)

-- a field behind another starts behind a semicolon
pub next_behind : (s : List ℕ) {y : List ℕ × List ℕ} → next_field s ≡ some y → (t : List ℕ) × (s ≡ semicolon ∷ t) × (field t ≡ some y)
unfolding next_field
next_behind [] {y} e = absurd (none-ne-some y e)
next_behind (b ∷ s) {y} e = by (eqb b semicolon) refl e
  where
    by : (t : Bool) → eqb b semicolon ≡ t → and_then (give_if (t || false) b s) (λ _. field) ≡ some y
        → (u : List ℕ) × (b ∷ s ≡ semicolon ∷ u) × (field u ≡ some y)
    by true f e = (s, ap (λ (c : ℕ). c ∷ s) (eqb-true b semicolon f), e)
    by false f e = absurd (none-ne-some y e)
